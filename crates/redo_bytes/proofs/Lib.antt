mod CompareLemmas
