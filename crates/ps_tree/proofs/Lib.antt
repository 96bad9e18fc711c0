mod Lists
mod Parallel
mod Roots
mod Texts
