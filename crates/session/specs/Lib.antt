-- What a reader must believe: what the code promises of a line, of what is written, of the bytes that come, of the
-- input, of its end
pub mod Answer
pub mod Output
pub mod Feed
pub mod Input
pub mod Outcome
pub mod Session
-- laws of them
pub mod AnswerLaws
pub mod OutputLaws
pub mod FeedLinesLaws
pub mod FeedLaws
pub mod InputLaws
pub mod OutcomeLaws
pub mod SessionLaws
