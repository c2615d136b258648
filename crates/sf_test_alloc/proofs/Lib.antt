-- Lemmas on calls in a row.
pub mod CallLemmas
