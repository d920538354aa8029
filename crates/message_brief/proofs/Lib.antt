mod Endings
mod NextEntries
mod PartsInTurn
mod Rooms
mod Uppers
