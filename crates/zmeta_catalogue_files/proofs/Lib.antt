mod ErrorLines
mod Reported
mod Faults
mod Listed
mod Files
mod Converted
