mod ClassLemmas
mod TurnLemmas
mod TableLemmas
mod BoundLemmas
mod MemberLemmas
mod CountLemmas
mod PassLemmas
