-- What a reader must believe: document 01's texts, calls and answers, in its order
pub mod Text
pub mod Limits
pub mod Number
pub mod Words
pub mod Args
pub mod Names
pub mod Call
pub mod Gate
pub mod Line
pub mod Print
pub mod Answer
pub mod Session
-- document 01's verdicts: the text, the answer, the session that a text stands for
pub mod Check
pub mod Ruling
pub mod Qubits
pub mod VerdictSession
-- demand 3, sentence by sentence; what a list of gates means, and what a verdict says (demand 2)
pub mod Agrees
pub mod Product
pub mod VerdictMeaning
pub mod VerdictBytes
-- what the code promises, module by module
pub mod Split
pub mod Squeeze
pub mod Engine
pub mod Operate
pub mod Respond
pub mod Progress
pub mod Apply
pub mod Perform
pub mod List
pub mod Judge
-- what laws speak of: a complete tally, calls that run, sessions with more indices
pub mod Complete
pub mod Runs
pub mod GrowSession
pub mod GateMatrix
-- laws of texts, calls and answers
pub mod SplitLaws
pub mod SplitLinesLaws
pub mod NumberLaws
pub mod ArgsLaws
pub mod CallLaws
pub mod NamesLaws
pub mod GateLaws
pub mod LineLaws
pub mod SqueezeReadLaws
pub mod SqueezeLaws
pub mod PrintLaws
pub mod AnswerLaws
pub mod CheckLaws
pub mod CheckTextLaws
pub mod CheckListsLaws
pub mod RulingLaws
pub mod PrintDecimalLaws
pub mod RulingBytesLaws
-- laws of the tally, of a verdict's session and of what it means
pub mod SessionLaws
pub mod CompleteLaws
pub mod QubitsLaws
pub mod ApplyLaws
pub mod ApplyCallsLaws
pub mod RunsLaws
pub mod VerdictSessionLaws
pub mod ProductMatrixLaws
pub mod GateMatrixLaws
pub mod ProductLaws
pub mod VerdictMeaningLaws
pub mod VerdictFaultLaws
pub mod VerdictLineLaws
pub mod GrowSessionLaws
-- laws of the engine between two lines, its calls, and the run
pub mod EngineLaws
pub mod OperateLaws
pub mod RespondLaws
pub mod AgreesLaws
pub mod ProgressLaws
-- laws of the verdict's session, call by call and line by line
pub mod PerformLaws
pub mod ListLaws
pub mod JudgeLaws
pub mod VerdictOutputLaws
pub mod VerdictBytesLaws
