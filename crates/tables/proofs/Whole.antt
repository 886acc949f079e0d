-- The steps of the table check are what reading a table means, of n nodes and the rest.
--     layout-fits, layout-near                 how long the sections of a table that is laid out are, and where one that is broken may be
--     sections-broken, sections-laid           the sections, after the nodes
--     node-view, link-view, name-view, text-view     what the table that the bytes are has at an index
--     nodes-length, links-length, names-length, text-length     how many
--     nodes-checked, names-checked             the nodes and the names, in order
--     table-short, table_none, table-many, table-past     the first count is missing, or outside its limits, or its nodes are past the end
--     table-split                              else the bytes are the first count, the nodes and the rest
-- Assumes nothing.
use Prim.Native.Nat.{ℕ, zero, suc, ◌+◌, ◌*◌, ◌-◌, ◌/◌, ◌%◌, ◌≤◌, ◌<◌}
use mathlib.Core.Path.{◌≡◌, refl, sym, ◌∙◌, ap, ap₂}
use mathlib.Core.List.{List, [], ◌∷◌, ◌++◌}
use mathlib.Core.Bool.{Bool, true, false, ◌&&◌}
use native.Mathlib.Nat.{zero-add, suc-add}
use native.Mathlib.Omega.{arith}
use lib.Dec.{ltb}
use lib.ListN.{length, get_or, take, drop, length-append, length-drop, take-append-drop}
use lib.Seq.{slice, take_all, drop-drop, drop_at, drop-nil, take-nil, get_or-drop}
use borrow.Author.Tests.{le-ltb, lt-ltb, le-leb, lt-leb}
use Rattle.meaning.specs.Rules.{◌⇒◌∣◌}
use Rattle.meaning.specs.Limits.{max_nodes, max_links, max_names, max_text}
use Rattle.meaning.specs.Refusals.{section_broken, node_broken, name_broken}
use Rattle.meaning.specs.Numbers.{two_bytes, of_two}
use Rattle.meaning.specs.Utf8.{utf8}
use Rattle.meaning.specs.Reading.{Reading, got, bad, next}
use Rattle.meaning.specs.SheetReading.{count_size, number_at}
use Rattle.meaning.specs.Table as Meant
use Rattle.meaning.specs.Table.{Table, node_of, link_of, name_of, text_of}
use Rattle.meaning.specs.TableReading as Reads
use Rattle.meaning.specs.TableReading.{node_size, link_size, name_size, section_at, nodes_in, links_in, names_in, bare_link, named_link, text_link, good_run, good_links, good_node, check_nodes, check_names, check_table, links_place, names_place, ended, read_table}
use Rattle.meaning.proofs.Rules.{facts, both}
use Rattle.meaning.proofs.Complete.{two-value}
use Rattle.tables.specs.declared.Section.{Section}
use Rattle.tables.specs.declared.Layout.{Layout}
use Rattle.tables.specs.declared.Broken.{Broken}
use Rattle.std.specs.Prelude.{Option, Some, None, Result, Ok, Err}
use Rattle.tables.specs.declared.Way.{Way}
use Rattle.tables.specs.declared.Way.TheVariants.{Bare, Named, Texts}
use Rattle.tables.specs.Places.{layout, broken, link_place, name_place, text_place, section_of, after_section, layout_at, table_in, node_at, link_at, name_at, good_by, good_from, good_span, good_at, first_bad_node, good_name, first_bad_name, Fits}
use Rattle.tables.proofs.Turns.{section-ended}

-- A test holds or fails.
cases : {X : Type 0} (t : Bool) → (t ≡ true → X) → (t ≡ false → X) → X
cases true f g = f refl
cases false f g = g refl

-- A byte of what is left from a place on is the byte at the place of the whole.
byte-drop : (s : List ℕ) (k j i : ℕ) → k + j ≡ i → get_or (drop k s) j 0 ≡ get_or s i 0
byte-drop s k j i e = get_or-drop k s j 0 ∙ ap (λ (x : ℕ). get_or s x 0) e

-- So is a number.
number-drop : (s : List ℕ) (k j i : ℕ) → k + j ≡ i → number_at (drop k s) j ≡ number_at s i
number-drop s k j i e = ap₂ of_two (byte-drop s k j i e) (byte-drop s k (j + 1) (i + 1) (omega arith))

-- So is a window.
slice-drop : (k a e : ℕ) (s : List ℕ) → slice a e (drop k s) ≡ slice (k + a) (k + e) s
slice-drop zero a e s = rw (zero-add a, zero-add e)
slice-drop (suc k) a e [] = rw (take-nil e, take-nil (suc k + e), drop-nil a, drop-nil (suc k + a))
slice-drop (suc k) a e (x ∷ s) = rw (suc-add k a, suc-add k e) (slice-drop k a e s)

-- what a section says of the bytes after its count
abbrev section_said : ℕ → List ℕ → Option Section → Reading ℕ
section_said p w (Some s) = got s.count w
section_said p w None = bad section_broken p

-- A section of the rest is what reading it means.
section-is : (p : ℕ) (rest : List ℕ) (at most size : ℕ) (v : List ℕ) → v ≡ drop at rest → section_at p 0 most size v ≡ section_said p (drop (at + count_size) rest) (section_of rest at most size)
unfolding section_at section_of
section-is p rest at most size [] h = let k = ap length h ∙ length-drop at rest in rw (lt-ltb (length rest - at) count_size (omega arith))
section-is p rest at most size (x ∷ []) h = let k = ap length h ∙ length-drop at rest in rw (lt-ltb (length rest - at) count_size (omega arith))
section-is p rest at most size (x ∷ y ∷ w) h =
    let k = ap length h ∙ length-drop at rest in
    let q : number_at rest at ≡ of_two x y = sym (number-drop rest at 0 at (omega arith)) ∙ ap (λ (u : List ℕ). number_at u 0) (sym h) in
    let f : length rest - at - count_size ≡ length w = omega arith in
    let d : drop (at + count_size) rest ≡ w = sym (drop-drop count_size at rest) ∙ ap (drop count_size) (sym h) in
    rw (le-ltb (length rest - at) count_size (omega arith), q, f, d, le-ltb (of_two x y) 0 (omega arith)) (
    both (λ a s. a ≡ section_said p w s) (ltb most (of_two x y)) (bad section_broken p) _ None _ (λ _. refl) λ _.
    both (λ a s. a ≡ section_said p w s) (ltb (length w) (size * of_two x y)) (bad section_broken p) _ None _ (λ _. refl) λ _.
    refl)

-- A layout that a section leads to is broken there, or has the section whole.
by-section : {P : Type 0} (rest : List ℕ) (at most size : ℕ) (go : ℕ → ℕ → Result Layout Broken) {r : Result Layout Broken} → after_section at (section_of rest at most size) go ≡ r → (Err (broken at) ≡ r → P) → ((count : ℕ) → count ≤ most → at + count_size + size * count ≤ length rest → go count (at + count_size + size * count) ≡ r → P) → P
by-section {P} rest at most size go {r} h b k = with-section (section_of rest at most size) refl h
  where
    with-section : (s : Option Section) → section_of rest at most size ≡ s → after_section at s go ≡ r → P
    with-section (Some s) e h =
        let d = section-ended rest at most size s.count s.next e in
        k s.count d.few (rw (← d.after) d.inside) (rw (← d.after) h)
    with-section None e h = b h

-- what a layout has
abbrev links_laid : Result Layout Broken → ℕ
links_laid (Ok a) = a.links
links_laid (Err b) = 0

abbrev names_laid : Result Layout Broken → ℕ
names_laid (Ok a) = a.names
names_laid (Err b) = 0

abbrev text_laid : Result Layout Broken → ℕ
text_laid (Ok a) = a.text
text_laid (Err b) = 0

abbrev place_broken : Result Layout Broken → ℕ
place_broken (Ok a) = 0
place_broken (Err b) = b.place

-- A layout that is broken is not laid out.
not-laid : {P : Type 0} {p l m c : ℕ} → ◌≡◌ {A = Result Layout Broken} (Err (broken p)) (Ok (layout l m c)) → P
not-laid h = let z : ◌≡◌ {A = ℕ} 0 1 = cc in absurd (omega arith)

-- Sections that are laid out are within their limits and end where the rest does.
pub layout-fits : (rest : List ℕ) (l m c : ℕ) → layout_at rest ≡ Ok (layout l m c) → Fits rest l m c
unfolding layout_at
layout-fits rest l m c h =
    by-section rest 0 max_links link_size _ h (λ b. not-laid b) λ l' f i h.
    by-section rest (link_place l') max_names name_size _ h (λ b. not-laid b) λ m' f' i' h.
    by-section rest (name_place l' m') max_text 1 _ h (λ b. not-laid b) λ c' f'' i'' h.
    cases (ltb (text_place l' m' + 1 * c') (length rest))
    (λ t. not-laid (rw t at h))
    λ t. let g = rw t at h in
    let p = ap links_laid g in let q = ap names_laid g in let r = ap text_laid g in
    record { links_few = omega arith; names_few = omega arith; text_few = omega arith; ends = omega (arith, facts) }

-- A broken layout is broken near the front.
pub layout-near : (rest : List ℕ) (p : ℕ) → layout_at rest ≡ Err (broken p) → p ≤ text_place max_links max_names + max_text
unfolding layout_at
layout-near rest p h =
    by-section rest 0 max_links link_size _ h (λ b. at 0 b (omega arith)) λ l f i h.
    by-section rest (link_place l) max_names name_size _ h (λ b. at (link_place l) b (omega arith)) λ m f' i' h.
    by-section rest (name_place l m) max_text 1 _ h (λ b. at (name_place l m) b (omega arith)) λ c f'' i'' h.
    cases (ltb (text_place l m + 1 * c) (length rest))
    (λ t. at (text_place l m + 1 * c) (rw t at h) (omega arith))
    λ t. not-laid (sym (rw t at h))
  where
    at : (q : ℕ) → ◌≡◌ {A = Result Layout Broken} (Err (broken q)) (Err (broken p)) → q ≤ text_place max_links max_names + max_text → p ≤ text_place max_links max_names + max_text
    at q e k = let z = ap place_broken e in omega arith

-- A node's entry, and those after it.
nodes-step : (c : ℕ) (w : List ℕ) → 2 ≤ length w → nodes_in (suc c) w ≡ node_at w 0 ∷ nodes_in c (drop node_size w)
unfolding nodes_in
nodes-step c [] h = absurd (omega arith)
nodes-step c (k ∷ []) h = absurd (omega arith)
nodes-step c (k ∷ z ∷ w) h = refl

-- Node i of what is left after a node is the node after it.
node-drop : (w : List ℕ) (i : ℕ) → node_at (drop node_size w) i ≡ node_at w (suc i)
node-drop w i =
    rw (
      byte-drop w node_size (node_size * i) (node_size * suc i) (omega arith),
      byte-drop w node_size (node_size * i + 1) (node_size * suc i + 1) (omega arith),
      number-drop w node_size (node_size * i + 2) (node_size * suc i + 2) (omega arith),
      number-drop w node_size (node_size * i + 4) (node_size * suc i + 4) (omega arith),
    )

-- Node i of the nodes that stand there is the one at its place.
nodes-at : (c i : ℕ) (w : List ℕ) → i < c → node_size * c ≤ length w → get_or (nodes_in c w) i (Meant.node 0 0 0) ≡ node_at w i
nodes-at zero i w h k = absurd (omega arith)
nodes-at (suc c) zero w h k = rw (nodes-step c w (omega arith))
nodes-at (suc c) (suc i) w h k = rw (nodes-step c w (omega arith)) (nodes-at c i (drop node_size w) (omega arith) (rw (length-drop node_size w) (omega arith)) ∙ node-drop w i)

-- They are as many as asked for.
nodes-many : (c : ℕ) (w : List ℕ) → node_size * c ≤ length w → length (nodes_in c w) ≡ c
unfolding nodes_in
nodes-many zero w k = refl
nodes-many (suc c) w k = rw (nodes-step c w (omega arith)) (ap suc (nodes-many c (drop node_size w) (rw (length-drop node_size w) (omega arith))))

-- What follows the nodes does not change them.
nodes-front : (c : ℕ) (u v : List ℕ) → node_size * c ≤ length u → nodes_in c (u ++ v) ≡ nodes_in c u
unfolding nodes_in
nodes-front zero u v h = refl
nodes-front (suc c) [] v h = absurd (omega arith)
nodes-front (suc c) (k ∷ []) v h = absurd (omega arith)
nodes-front (suc c) (k ∷ z ∷ []) v h = absurd (omega arith)
nodes-front (suc c) (k ∷ z ∷ a ∷ []) v h = absurd (omega arith)
nodes-front (suc c) (k ∷ z ∷ a ∷ a' ∷ []) v h = absurd (omega arith)
nodes-front (suc c) (k ∷ z ∷ a ∷ a' ∷ b ∷ []) v h = absurd (omega arith)
nodes-front (suc c) (k ∷ z ∷ a ∷ a' ∷ b ∷ b' ∷ u) v h = ap (λ (ns : List Meant.Node). record { kind = k; second = z; a = of_two a a'; b = of_two b b' } ∷ ns) (nodes-front c u v (omega arith))

-- Link x of the links that stand there is the one at its place.
links-at : (c x : ℕ) (w : List ℕ) → x < c → get_or (links_in c w) x (Meant.link 0 0) ≡ Meant.link (number_at w (link_size * x)) (number_at w (link_size * x + count_size))
unfolding links_in
links-at zero x w h = absurd (omega arith)
links-at (suc c) zero w h = refl
links-at (suc c) (suc x) w h =
    links-at c x (drop link_size w) (omega arith)
    ∙ ap₂ Meant.link (number-drop w link_size (link_size * x) (link_size * suc x) (omega arith)) (number-drop w link_size (link_size * x + count_size) (link_size * suc x + count_size) (omega arith))

-- They are as many as asked for.
links-many : (c : ℕ) (w : List ℕ) → length (links_in c w) ≡ c
unfolding links_in
links-many zero w = refl
links-many (suc c) w = ap suc (links-many c (drop link_size w))

-- Name k of the names that stand there is the one at its place.
names_at : (c k : ℕ) (w : List ℕ) → k < c → get_or (names_in c w) k (Meant.name 0 0) ≡ Meant.name (number_at w (name_size * k)) (number_at w (name_size * k + count_size))
unfolding names_in
names_at zero k w h = absurd (omega arith)
names_at (suc c) zero w h = refl
names_at (suc c) (suc k) w h =
    names_at c k (drop name_size w) (omega arith)
    ∙ ap₂ Meant.name (number-drop w name_size (name_size * k) (name_size * suc k) (omega arith)) (number-drop w name_size (name_size * k + count_size) (name_size * suc k + count_size) (omega arith))

-- They are as many as asked for.
names-many : (c : ℕ) (w : List ℕ) → length (names_in c w) ≡ c
unfolding names_in
names-many zero w = refl
names-many (suc c) w = ap suc (names-many c (drop name_size w))

module _ (nodes rest : List ℕ) (n l m : ℕ) where
  -- The table has the node that stands at an index.
  pub node-view : length nodes ≡ node_size * n → (i : ℕ) → i < n → node_of (table_in nodes rest n l m) i ≡ node_at nodes i
  node-view e i h = nodes-at n i nodes h (omega arith)

  -- It has the link that stands there.
  pub link-view : (x : ℕ) → x < l → link_of (table_in nodes rest n l m) x ≡ link_at rest x
  link-view x h =
      links-at l x (drop count_size rest) h
      ∙ ap₂ Meant.link (number-drop rest count_size (link_size * x) (link_place x) refl) (number-drop rest count_size (link_size * x + count_size) (link_place x + count_size) (omega arith))

  -- It has the name that stands there.
  pub name-view : (k : ℕ) → k < m → name_of (table_in nodes rest n l m) k ≡ name_at rest l k
  name-view k h =
      names_at m k (drop (name_place l 0) rest) h
      ∙ ap₂ Meant.name (number-drop rest (name_place l 0) (name_size * k) (name_place l k) (omega arith)) (number-drop rest (name_place l 0) (name_size * k + count_size) (name_place l k + count_size) (omega arith))

  -- The text of a name is the window of the rest that the name says.
  pub text-view : (k : ℕ) → k < m → text_of (table_in nodes rest n l m) k ≡ slice (text_place l m + (name_at rest l k).start) (text_place l m + (name_at rest l k).start + (name_at rest l k).size) rest
  text-view k h =
      let p = text_place l m in let a = (name_at rest l k).start in let z = (name_at rest l k).size in
      let e : p + (a + z) ≡ p + a + z = omega arith in
      rw (name-view k h) (slice-drop p a (a + z) rest ∙ ap (λ (i : ℕ). slice (p + a) i rest) e)

  -- It has as many nodes as its first count says.
  pub nodes-length : length nodes ≡ node_size * n → length (table_in nodes rest n l m).nodes ≡ n
  nodes-length e = nodes-many n nodes (omega arith)

  -- So it has links.
  pub links-length : length (table_in nodes rest n l m).links ≡ l
  links-length = links-many l (drop count_size rest)

  -- So it has names.
  pub names-length : length (table_in nodes rest n l m).names ≡ m
  names-length = names-many m (drop (name_place l 0) rest)

  -- So it has bytes of text.
  pub text-length : {c : ℕ} → Fits rest l m c → length (table_in nodes rest n l m).text ≡ c
  text-length f = rw (length-drop (text_place l m) rest) (omega (arith, f.ends))

-- a table that has the links and as many names
module _ (rest : List ℕ) (T : Table) (l m i : ℕ) (view : (x : ℕ) → x < l → link_of T x ≡ link_at rest x) (links : length T.links ≡ l) (names : length T.names ≡ m) where
  module _ (way : Way) (good : Meant.Link → Bool) (same : (k : Meant.Link) → good k ≡ good_by way i m k) where
    -- A run of its links is judged as the run at their places.
    run_is : (a b : ℕ) → a + b ≤ l → good_run T good a b ≡ good_from rest way i m a b
    unfolding good_run good_from
    run_is a zero h = refl
    run_is a (suc b) h = ap₂ ◌&&◌ (ap good (view a (omega arith)) ∙ same (link_at rest a)) (run_is (suc a) b (omega arith))

    -- So are the links of a node, which may pass the last.
    span-is : (n : Meant.Node) → good_links T good n ≡ good_span rest way i l m n.a n.b
    unfolding good_span
    span-is n =
        cases (ltb l (n.a + n.b))
        (λ t. rw (links, t, lt-leb (n.a + n.b) l (omega (arith, facts))))
        λ t. rw (links, t, le-leb (n.a + n.b) l (omega (arith, facts))) (run_is n.a n.b (omega (arith, facts)))

  -- So is a node.
  node-is : (n : Meant.Node) → good_node T i n ≡ good_at rest l m i n
  unfolding good_node good_at
  node-is n =
      rw (
        span-is Bare (bare_link T i) (λ k. refl) n,
        span-is Named (named_link T i) (λ k. rw names) n,
        span-is Texts (text_link T) (λ k. rw names) n,
      )

-- Nodes that are those at their places, from node i on: the first that is broken is the answer, and where none is, the check goes on.
nodes-walk : (nodes rest : List ℕ) (T : Table) (l m : ℕ) → ((i : ℕ) (n : Meant.Node) → good_node T i n ≡ good_at rest l m i n) → (r : Reading Table) (ns : List Meant.Node) (i : ℕ)
    → ((j : ℕ) → j < length ns → get_or ns j (Meant.node 0 0 0) ≡ node_at nodes (i + j))
    → (first_bad_node nodes rest l m (length ns) i < i + length ns → check_nodes T i ns r ≡ bad node_broken (first_bad_node nodes rest l m (length ns) i))
    × (i + length ns ≤ first_bad_node nodes rest l m (length ns) i → check_nodes T i ns r ≡ r)
unfolding check_nodes first_bad_node
nodes-walk nodes rest T l m same r [] i view = (λ h. absurd (omega arith), λ h. refl)
nodes-walk nodes rest T l m same r (n ∷ ns) i view =
    let z : i + 0 ≡ i = omega arith in
    let e : n ≡ node_at nodes i = view 0 (omega arith) ∙ ap (node_at nodes) z in
    cases (good_at rest l m i (node_at nodes i))
    (λ t.
    let w = nodes-walk nodes rest T l m same r ns (suc i) (λ j h. let y : i + suc j ≡ suc i + j = omega arith in view (suc j) (omega arith) ∙ ap (node_at nodes) y) in
    rw (same i n, e, t) (λ h. w.0 (omega arith), λ h. w.1 (omega arith)))
    λ t. rw (same i n, e, t) (λ h. refl, λ h. absurd (omega arith))

-- So do names.
names-walk : (rest : List ℕ) (T : Table) (l m c : ℕ) → length T.text ≡ c → (r : Reading Table) (ns : List Meant.Name) (k : ℕ)
    → ((j : ℕ) → j < length ns → get_or ns j (Meant.name 0 0) ≡ name_at rest l (k + j))
    → ((j : ℕ) → j < k + length ns → text_of T j ≡ slice (text_place l m + (name_at rest l j).start) (text_place l m + (name_at rest l j).start + (name_at rest l j).size) rest)
    → (first_bad_name rest l m c (length ns) k < k + length ns → check_names T k ns r ≡ bad name_broken (first_bad_name rest l m c (length ns) k))
    × (k + length ns ≤ first_bad_name rest l m c (length ns) k → check_names T k ns r ≡ r)
unfolding check_names first_bad_name good_name
names-walk rest T l m c long r [] k view texts = (λ h. absurd (omega arith), λ h. refl)
names-walk rest T l m c long r (n ∷ ns) k view texts =
    let z : k + 0 ≡ k = omega arith in
    let e : n ≡ name_at rest l k = view 0 (omega arith) ∙ ap (name_at rest l) z in
    let a = (name_at rest l k).start in let s = (name_at rest l k).size in
    let p = text_place l m in
    cases (ltb c (a + s))
    (λ t. rw (texts k (omega arith), long, e, t) (λ h. refl, λ h. absurd (omega arith)))
    λ t. cases (utf8 (slice (p + a) (p + a + s) rest))
    (λ u.
    let w = names-walk rest T l m c long r ns (suc k) (λ j h. let y : k + suc j ≡ suc k + j = omega arith in view (suc j) (omega arith) ∙ ap (name_at rest l) y) (λ j h. texts j (omega arith)) in
    rw (texts k (omega arith), long, e, t, u) (λ h. w.0 (omega arith), λ h. w.1 (omega arith)))
    λ u. rw (texts k (omega arith), long, e, t, u) (λ h. refl, λ h. absurd (omega arith))

-- the check of all names of a table, with what follows it
abbrev pub all_names : Table → Reading Table
all_names T = check_names T 0 T.names (got T [])

module _ (nodes rest : List ℕ) (n l m : ℕ) where
  -- The check of a table goes by the first of its nodes that is broken.
  pub nodes-checked : length nodes ≡ node_size * n
      → (first_bad_node nodes rest l m n 0 < n → check_table (table_in nodes rest n l m) ≡ bad node_broken (first_bad_node nodes rest l m n 0))
      × (n ≤ first_bad_node nodes rest l m n 0 → check_table (table_in nodes rest n l m) ≡ all_names (table_in nodes rest n l m))
  nodes-checked whole =
      let T = table_in nodes rest n l m in
      let w = nodes-walk nodes rest T l m (λ i. node-is rest T l m i (link-view nodes rest n l m) (links-length nodes rest n l m) (names-length nodes rest n l m)) (all_names T) T.nodes 0 in
      (rw (nodes-length nodes rest n l m whole, zero-add n) at w) (λ j h. rw (zero-add j) (node-view nodes rest n l m whole j h))

  -- The check of its names goes by the first of them that is broken.
  pub names-checked : {c : ℕ} → Fits rest l m c
      → (first_bad_name rest l m c m 0 < m → all_names (table_in nodes rest n l m) ≡ bad name_broken (first_bad_name rest l m c m 0))
      × (m ≤ first_bad_name rest l m c m 0 → all_names (table_in nodes rest n l m) ≡ got (table_in nodes rest n l m) [])
  names-checked {c} fits =
      let T = table_in nodes rest n l m in
      let w = names-walk rest T l m c (text-length nodes rest n l m fits) (got T []) T.names 0 in
      (rw (names-length nodes rest n l m, zero-add m) at w) (λ j h. rw (zero-add j) (name-view nodes rest n l m j h)) (text-view nodes rest n l m)

-- what is read after the text's count, after the names' and after the links', in a table with the nodes ns
module _ (ns : List Meant.Node) (n : ℕ) where
  abbrev after_text : ℕ → ℕ → List ℕ → List ℕ → ℕ → List ℕ → Reading Table
  after_text l m u v c w = ended (Reads.text_place n l m) c w (check_table (record { nodes = ns; links = links_in l u; names = names_in m v; text = w }))

  abbrev after_names : ℕ → List ℕ → ℕ → List ℕ → Reading Table
  after_names l u m v = next (section_at (Reads.text_place n l m) 0 max_text 1 (drop (name_size * m) v)) (after_text l m u v)

  abbrev after_links : ℕ → List ℕ → Reading Table
  after_links l u = next (section_at (names_place n l) 0 max_names name_size (drop (link_size * l) u)) (after_names l u)

  module _ (rest : List ℕ) where
    -- what a layout of the rest says of the table
    abbrev laid_said : Result Layout Broken → Reading Table
    laid_said (Ok a) = check_table (record { nodes = ns; links = links_in a.links (drop count_size rest); names = names_in a.names (drop (name_place a.links 0) rest); text = drop (text_place a.links a.names) rest })
    laid_said (Err b) = bad section_broken (links_place n + b.place)

    -- the layout from the text's count on, from the names' and from the links'
    abbrev lay_text : ℕ → ℕ → ℕ → ℕ → Result Layout Broken
    lay_text l m c end = ltb end (length rest) ⇒ Err (broken end) ∣ λ _. Ok (layout l m c)

    abbrev lay_names : ℕ → ℕ → ℕ → Result Layout Broken
    lay_names l m third = after_section third (section_of rest third max_text 1) (lay_text l m)

    abbrev lay_links : ℕ → ℕ → Result Layout Broken
    lay_links l second = after_section second (section_of rest second max_names name_size) (lay_names l)

    -- The text's section is what reading it means.
    text-said : (l m : ℕ) (s : Option Section) → section_of rest (name_place l m) max_text 1 ≡ s
        → next (section_said (Reads.text_place n l m) (drop (text_place l m) rest) s) (after_text l m (drop count_size rest) (drop (name_place l 0) rest)) ≡ laid_said (after_section (name_place l m) s (lay_text l m))
    unfolding next ended
    text-said l m (Some s) h =
        let c = s.count in let end = s.next in
        let d = section-ended rest (name_place l m) max_text 1 c end h in
        let k = length-drop (text_place l m) rest in
        cases (ltb end (length rest))
        (λ t. let p : Reads.text_place n l m + count_size + c ≡ links_place n + end = omega arith in rw (t, lt-ltb c (length (drop (text_place l m) rest)) (omega (arith, facts))) (ap (bad section_broken) p))
        λ t. rw (t, le-ltb c (length (drop (text_place l m) rest)) (omega (arith, facts)))
    text-said l m None h = let p : Reads.text_place n l m ≡ links_place n + name_place l m = omega arith in ap (bad section_broken) p

    -- So is the names', and what follows.
    names-said : (l : ℕ) (s : Option Section) → section_of rest (link_place l) max_names name_size ≡ s
        → next (section_said (names_place n l) (drop (name_place l 0) rest) s) (after_names l (drop count_size rest)) ≡ laid_said (after_section (link_place l) s (lay_names l))
    unfolding next
    names-said l (Some s) h =
        let m = s.count in let third = s.next in
        let d = section-ended rest (link_place l) max_names name_size m third h in
        let q : name_place l 0 + name_size * m ≡ name_place l m = omega arith in
        rw (d.after, section-is (Reads.text_place n l m) rest (name_place l m) max_text 1 _ (drop-drop (name_size * m) (name_place l 0) rest ∙ ap (λ (i : ℕ). drop i rest) q)) (text-said l m _ refl)
    names-said l None h = let p : names_place n l ≡ links_place n + link_place l = omega arith in ap (bad section_broken) p

    -- So is the links', and what follows.
    links-said : (s : Option Section) → section_of rest 0 max_links link_size ≡ s
        → next (section_said (links_place n) (drop count_size rest) s) after_links ≡ laid_said (after_section 0 s lay_links)
    unfolding next
    links-said (Some s) h =
        let l = s.count in let second = s.next in
        let d = section-ended rest 0 max_links link_size l second h in
        let z : second ≡ link_place l = omega arith in let y : link_place l + count_size ≡ name_place l 0 = omega arith in
        rw (z, section-is (names_place n l) rest (link_place l) max_names name_size _ (drop-drop (link_size * l) count_size rest), y) (names-said l _ refl)
    links-said None h = let p : links_place n ≡ links_place n + 0 = omega arith in ap (bad section_broken) p

module _ (nodes rest : List ℕ) (n : ℕ) (whole : length nodes ≡ node_size * n) (some : 1 ≤ n) (few : n ≤ max_nodes) where
  -- The nodes' section is there.
  nodes-said : section_at 0 1 max_nodes node_size (two_bytes n ++ (nodes ++ rest)) ≡ got n (nodes ++ rest)
  unfolding section_at
  nodes-said = rw (two-value n, le-ltb n 1 some, le-ltb max_nodes n few, le-ltb (length (nodes ++ rest)) (node_size * n) (rw (length-append nodes rest) (omega arith)))

  -- A table is as the rest is laid out.
  sections-said : read_table (two_bytes n ++ (nodes ++ rest)) ≡ laid_said (nodes_in n nodes) n rest (layout_at rest)
  unfolding read_table next layout_at
  sections-said =
      rw (nodes-said, drop_at nodes rest (node_size * n) whole, section-is (links_place n) rest 0 max_links link_size rest refl)
      (links-said (nodes_in n (nodes ++ rest)) n rest (section_of rest 0 max_links link_size) refl
      ∙ ap (λ (ns : List Meant.Node). laid_said ns n rest (layout_at rest)) (nodes-front n nodes rest (omega arith)))

  -- A broken section, or bytes left over, are refused at their place.
  pub sections-broken : (p : ℕ) → layout_at rest ≡ Err (broken p) → read_table (two_bytes n ++ (nodes ++ rest)) ≡ bad section_broken (links_place n + p)
  sections-broken p h = sections-said ∙ ap (laid_said (nodes_in n nodes) n rest) h

  -- Any other table is checked.
  pub sections-laid : (l m c : ℕ) → layout_at rest ≡ Ok (layout l m c) → read_table (two_bytes n ++ (nodes ++ rest)) ≡ check_table (table_in nodes rest n l m)
  sections-laid l m c h = sections-said ∙ ap (laid_said (nodes_in n nodes) n rest) h

-- The first section breaks a table where it is broken.
first-broken : (w : List ℕ) → section_at 0 1 max_nodes node_size w ≡ bad section_broken 0 → read_table w ≡ bad section_broken 0
unfolding read_table next
first-broken w h = rw h

-- So it does where its count is missing.
pub table-short : (w : List ℕ) → length w < count_size → read_table w ≡ bad section_broken 0
unfolding section_at
table-short [] h = first-broken [] refl
table-short (x ∷ []) h = first-broken (x ∷ []) refl
table-short (x ∷ y ∷ w) h = absurd (omega arith)

-- So it does where its count is 0.
pub table_none : (w : List ℕ) → number_at w 0 ≡ 0 → read_table w ≡ bad section_broken 0
unfolding section_at
table_none [] h = first-broken [] refl
table_none (x ∷ []) h = first-broken (x ∷ []) refl
table_none (x ∷ y ∷ w) h = first-broken (x ∷ y ∷ w) (rw (lt-ltb (of_two x y) 1 (omega arith)))

-- So it does where its count is over the limit.
pub table-many : (w : List ℕ) → max_nodes < number_at w 0 → read_table w ≡ bad section_broken 0
unfolding section_at
table-many [] h = first-broken [] refl
table-many (x ∷ []) h = first-broken (x ∷ []) refl
table-many (x ∷ y ∷ w) h = first-broken (x ∷ y ∷ w) (rw (le-ltb (of_two x y) 1 (omega arith), lt-ltb max_nodes (of_two x y) h))

-- So it does where its nodes pass the end.
pub table-past : (w : List ℕ) → length w < links_place (number_at w 0) → read_table w ≡ bad section_broken 0
unfolding section_at
table-past [] h = first-broken [] refl
table-past (x ∷ []) h = first-broken (x ∷ []) refl
table-past (x ∷ y ∷ w) h =
    first-broken (x ∷ y ∷ w) (
    cases (ltb (of_two x y) 1) (λ t. rw t) λ t.
    cases (ltb max_nodes (of_two x y)) (λ u. rw (t, u)) λ u.
    rw (t, u, lt-ltb (length w) (node_size * of_two x y) (omega arith)))

-- Else the bytes are the count, the nodes and the rest, each lent as a part.
pub table-split : (w : List ℕ) (n : ℕ) → ((i : ℕ) → get_or w i 0 < 256) → n ≡ number_at w 0 → links_place n ≤ length w
    → two_bytes n ++ (take (links_place n - count_size) (drop count_size w) ++ take (length w - links_place n) (drop (links_place n) w)) ≡ w
table-split [] n b e h = absurd (omega arith)
table-split (x ∷ []) n b e h = absurd (omega arith)
table-split (x ∷ y ∷ w) n b e h =
    let i = b 0 in let j = b 1 in
    let low : n % 256 ≡ x = omega arith in let high : n / 256 ≡ y = omega arith in
    let p : links_place n ≡ suc (suc (node_size * n)) = omega arith in let q : suc (suc (node_size * n)) - 2 ≡ node_size * n = omega arith in
    let l = length-drop (node_size * n) w in
    rw (low, high, p, q, take_all (suc (suc (length w)) - suc (suc (node_size * n))) (drop (node_size * n) w) (omega arith), take-append-drop (node_size * n) w)
