mod Runs
mod Search
mod Tampering
mod ByHand
mod Confirming
