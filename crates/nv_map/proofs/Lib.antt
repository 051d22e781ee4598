mod Raising
mod Runs
mod Says
mod Made
mod Lines
mod Shared
