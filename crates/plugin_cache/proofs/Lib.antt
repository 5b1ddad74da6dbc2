mod KeyLemmas
mod SliceLemmas
mod SumLemmas
