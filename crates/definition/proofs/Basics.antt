-- Lists, records and numbers, with no tree yet.
-- Lists: each and some of a list's elements, membership, and what the tests of specs/Lists tell.
pub mod Lists
-- Records: kinds and marked records by their numbers.
pub mod Records
-- Forms: the formula of a record, and that records that are appended change none.
pub mod Forms
-- Identifiers: distinct numbers; the subtrees of a rule's result hold each identifier that was issued for it once.
pub mod Identifiers
