mod Plans
mod Names
mod Numbers
mod Refusals
