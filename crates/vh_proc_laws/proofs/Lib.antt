-- What an assignment makes of each digit
pub mod DigitsLemmas
-- One walk finds whom a disable stops
pub mod FoundLemmas
-- Those that leave are found once each
pub mod ApartLemmas
-- What holds after each way in which a process steps holds after every step
pub mod StepsLemmas
-- Each label keeps the processes by their numbers
pub mod NumbersLemmas
-- Those that wait stand by rising numbers
pub mod WaitsLemmas
-- What a disable does to everybody
pub mod StopsLemmas
