-- Cache-Status (RFC 9211 section 2): the meaning of a List, and the member that is written for a
-- hop. The sections named are those of RFC 9211 throughout this folder. A hop, an outcome, a reason
-- and a name are the types of `src/cache_status/hop.rt` as contracts see them. If the RFC leaves
-- open what a field means, the definition says that the choice is ours. The files are listed in
-- reading order.
pub mod Parameters
pub mod Reasons
pub mod Hops
pub mod Served
pub mod Members
pub mod Appended
pub mod Laws
pub mod Views
