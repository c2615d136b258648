-- The meanings of fields: the definitions that the contracts use. Cache-Status is that of RFC 9211,
-- targeted fields those of RFC 9213, priorities those of RFC 9218.
pub mod CacheStatus
pub mod Targeted
pub mod TargetedChoice
pub mod TargetedLaws
pub mod Ranges
pub mod Priority
pub mod PriorityLaws
pub mod Scanning
pub mod PriorityUpdate
pub mod ResponsePriority
pub mod Caching
pub mod CachingLaws
pub mod TargetedRules
pub mod Expires
pub mod CacheControl
pub mod CacheControlSteps
pub mod CacheControlLaws
