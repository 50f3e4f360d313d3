mod Numbers
mod ByteTables
mod WordPlaces
