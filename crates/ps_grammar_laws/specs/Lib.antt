pub mod LineForms
pub mod MemberLines
