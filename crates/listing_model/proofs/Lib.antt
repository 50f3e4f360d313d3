mod Derived
mod Joined
mod Told
