mod Deposits
mod Pending
