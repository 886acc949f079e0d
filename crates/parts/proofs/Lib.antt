pub mod Listed
pub mod Lists
pub mod Whole
pub mod Judged
