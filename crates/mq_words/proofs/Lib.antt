mod Asking
mod Taking
mod Telling
mod Values
