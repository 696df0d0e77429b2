pub mod Lists
pub mod Before
pub mod Fill
pub mod Give
pub mod Under
pub mod Worlds
