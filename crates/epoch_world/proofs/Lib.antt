pub mod PendingDeferrals
pub mod DeferralsBounded
pub mod TicketsBounded
pub mod GuardsFew
pub mod JobsCounted
pub mod WorldKept
pub mod Performed
pub mod AccessesFall
pub mod SlotsStay
pub mod StepsFall
pub mod TurnsTaken
pub mod PlacesSeen
pub mod PlacesTold
pub mod AheadsStay
pub mod ReadingLists
pub mod AcceptedCalls
pub mod WorldSteps
pub mod CollectionSteps
pub mod FreeSeats
pub mod RoomSteps
pub mod RoomForReadings
pub mod SteppedOnce
mod LoneWorld
mod LoneCalls
mod ThreeRounds
mod ListedSteps
