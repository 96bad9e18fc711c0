mod ArgPlaces
pub mod FormEdits
pub mod FormLines
mod OneMember
mod SaidLines
mod TextLines
pub mod WholeMembers
