mod Crossings
mod Fitting
