pub mod FileParts
pub mod Moved
pub mod Told
pub mod Alike
pub mod OneStep
mod SameShown
pub mod Settled
mod Standing
mod Calling
mod Upgrading
pub mod UpgradesOnce
mod MadeCalls
mod OneCall
mod OneClean
mod WriteTests
mod SeemSame
mod AlikeCalls
pub mod AlikeSteps
