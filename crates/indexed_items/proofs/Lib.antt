mod Keeping
mod Committing
mod Overwriting
mod Substituting
mod Answering
