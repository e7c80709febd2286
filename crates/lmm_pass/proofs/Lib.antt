mod Absent
mod Due
mod FirmSets
mod Others
mod Slots
mod Spends
mod UnderWay
mod Unmoved
