-- 01-scope.md, "Sizes". Every limit of the project stands here and nowhere else in the meaning.
use Rattle.std.specs.Prelude.{ℕ}

-- "Encoding 1 to 2,048 bytes; depth 1 to 16."
abbrev pub max_bytes : ℕ
max_bytes = 2048

abbrev pub max_levels : ℕ
max_levels = 16

-- "Table: 1 to 6,144 nodes, up to 6,144 links, 2,048 names, 2,048 bytes of text."
abbrev pub max_nodes : ℕ
max_nodes = 6144

abbrev pub max_links : ℕ
max_links = 6144

abbrev pub max_names : ℕ
max_names = 2048

abbrev pub max_text : ℕ
max_text = 2048

-- "Every accepted encoding has a table within these, of at most 61,448 bytes."
abbrev pub longest_made : ℕ
longest_made = 61448

-- "Sheet: up to 32 entries, up to 16,384 bytes of encodings."
abbrev pub max_entries : ℕ
max_entries = 32

abbrev pub max_encodings : ℕ
max_encodings = 16384
