pub mod Listings
pub mod Giving
pub mod Reapply
pub mod Again
pub mod Forked
pub mod Necessary
