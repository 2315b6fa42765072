-- What the code promises
pub mod Replay
-- laws of it
pub mod ReplayLaws
