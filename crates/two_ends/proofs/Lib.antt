-- the circle, one direction, and what lies on a line
pub mod Positions
pub mod Half
pub mod Gaps
pub mod Books
pub mod Lines
pub mod Direction
pub mod Passing
pub mod Freeing
pub mod Octets
pub mod Packets
-- the invariant, and both directions after an event
pub mod Invariant
pub mod Sides
pub mod Sends
pub mod Takes
pub mod Worlds
pub mod Acts
-- each event keeps it: an end that fails, restarts, submits, writes, opens, sends
pub mod Failing
pub mod Quiet
pub mod Resting
pub mod Submitting
pub mod Writing
pub mod Opening
pub mod Sending
-- .. and the oldest message delivered: the peer's Init, a message in UpFT
pub mod Delivering
pub mod Oldest
pub mod Starting
pub mod Greeted
pub mod Resuming
pub mod Judging
pub mod Receiving
pub mod Arriving
pub mod Delivered
-- the start, room in the store, and the theorem
pub mod Begun
pub mod Room
pub mod Theorem
pub mod Before
pub mod Omitted
-- when a state is released, and that a world that has not lasted does not last again
pub mod Staying
pub mod Monotone
-- the labels, a layer over it: no code 6, what is owed for them, and what is given and in use
pub mod Accepting
pub mod Sixless
pub mod Owed
pub mod Paid
pub mod Tidy
pub mod Codes
pub mod Agreeing
pub mod Acking
pub mod Getting
pub mod NoRequests
pub mod Sharing
pub mod Crossing
pub mod Allowing
pub mod Fitting
-- what persists between the two ends, over every change of one and over every run; the labels do
pub mod Persisting
pub mod Labels
pub mod Leaving
pub mod Hearing
pub mod Persisted
-- so do the marks of Requests stopped
pub mod Stopping
-- with both: the answers that come, and what holds of labels over a run
pub mod Answering
pub mod Listing
pub mod Giving
-- and where the owners keep a rule for a label
pub mod Matching
pub mod Matches
-- steady owners
pub mod Saying
pub mod Steady
pub mod Calm
pub mod Enduring
