mod Laws
mod Verdicts
