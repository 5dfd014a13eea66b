-- what a session keeps, its phases, its answers, and what a call makes of them
pub mod State
pub mod Phases
pub mod Answers
pub mod Step
pub mod Held
pub mod Acked
-- the calls, in 01's order of events
pub mod Begin
pub mod Writer
pub mod Open
pub mod Received
pub mod Init
pub mod ConnectionFailed
pub mod TimePassed
pub mod Accepting
pub mod Submit
pub mod LeftOut
pub mod Send
pub mod KeepAlive
pub mod Labels
pub mod Receive
-- all ten as one function, and Receive's answers as a list of cases
pub mod Calls
pub mod Cases
-- what holds of every state that an image can hold
pub mod Lawful
-- ---- the words of the theorems
-- what a call is judged by and does, what it hears, and what the code's types say of its input
pub mod Judged
pub mod Hearing
pub mod Proper
-- the answers to a submission and to the peer's Init as lists of cases
pub mod SubmitCases
pub mod InitCases
-- what each call means for the state, clause by clause
pub mod MeaningHeld
pub mod MeaningLabels
pub mod MeaningWriters
pub mod MeaningInit
pub mod MeaningTimers
pub mod MeaningTimeout
pub mod MeaningSubmit
pub mod MeaningSend
pub mod MeaningReceive
pub mod MeaningRequests
pub mod MeaningLife
pub mod MeaningEntries
pub mod MeaningExact
