-- The definitions that the contracts use: the sentences of the RFCs, and what it means that the
-- consumers of `sf_use` agree with them.
pub mod OrderedMaps
pub mod Rfc9211
pub mod Rfc9213
pub mod Rfc9218
pub mod Rfc9111
pub mod CacheStatusLaws
pub mod TargetedLaws
pub mod PriorityLaws
pub mod CachingLaws
