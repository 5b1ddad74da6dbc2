mod OutputLemmas
mod OrderLemmas
mod TotalLemmas
mod TakenLemmas
