pub mod Laws
pub mod WordLaws
pub mod TextLaws
