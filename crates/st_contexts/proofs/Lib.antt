mod Lists
mod Flatten
mod Coded
mod Finding
mod Standing
mod Links
