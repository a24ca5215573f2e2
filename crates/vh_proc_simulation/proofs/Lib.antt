-- What reads the time, by parts
mod ClockLemmas
-- One turn of the loops over changes, processes and values
mod LoopsLemmas
