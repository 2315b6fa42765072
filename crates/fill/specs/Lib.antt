-- What the code promises
pub mod Fill
-- laws of it
pub mod FillLaws
