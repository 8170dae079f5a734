mod ItemLemmas
mod RuleLemmas
mod StateLemmas
mod TextLemmas
