-- What a reader must believe: what the code promises of the bytes that come, of the end, of the whole
pub mod Input
pub mod Outcome
pub mod Verdict
-- laws of them
pub mod InputLaws
pub mod VerdictLaws
