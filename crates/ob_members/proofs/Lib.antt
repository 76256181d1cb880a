pub mod KeptIndexes
pub mod MemberPlaces
