mod Kept
mod NoTypes
