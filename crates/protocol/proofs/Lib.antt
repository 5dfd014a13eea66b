-- an answer's effect, and what it leaves
pub mod Effects
pub mod Settling
-- Receive's, Init's and Submit's answers are the lists of their cases
pub mod Cases
pub mod InitCases
pub mod SubmitCases
pub mod Submits
-- the calls whose refusals change nothing; every call is its tests' answer, settled
pub mod Refusals
pub mod Settles
pub mod Hearing
-- the label words that the rules leave; every call keeps the state lawful
pub mod Words
pub mod KeepingLabels
pub mod KeepingNumbers
pub mod KeepingQueue
pub mod KeepingStates
pub mod KeepingPhases
pub mod KeepingInit
pub mod PassedOver
pub mod Sends
pub mod KeepingSend
pub mod KeepingReceive
pub mod KeepingCalls
-- what an answer leaves, whatever the call, and what each call leaves of the queue and of the terms
pub mod Answered
pub mod Queues
-- what each call means for the state
pub mod Passing
pub mod MeaningHeld
pub mod MeaningLabels
pub mod MeaningEvents
pub mod MeaningWriters
pub mod MeaningInit
pub mod MeaningTimers
pub mod MeaningTimeout
pub mod MeaningSubmit
pub mod MeaningLeftOut
pub mod MeaningSend
pub mod MeaningReceive
pub mod Unresumed
pub mod Requests
pub mod OpenRequests
pub mod RequestsSubmitted
pub mod RequestsReceived
pub mod MeaningRequests
pub mod MeaningLife
pub mod MeaningEntries
pub mod MeaningExact
pub mod MeaningMarks
pub mod Asking
pub mod Numbered
-- what is settled, case by case; the writers and the peer's Init as two ends need them
pub mod Leaving
pub mod Quiet
pub mod Writers
pub mod Begins
-- whatever the call: how many are held, and what is left of kept, the parameters and the store
pub mod Few
pub mod Moves
