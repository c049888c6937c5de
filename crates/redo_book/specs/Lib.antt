pub mod Book
pub mod Intact
pub mod Noted
pub mod inside
