-- Lemmas on Cache-Status.
pub mod Written
pub mod ReadBack
pub mod LastHits
pub mod Gathered
pub mod Views
pub mod Scanned
