-- What is so of no value.
use Rattle.std.proofs.Common.{◌≡◌, Option, Some, None, refl}
use Rattle.std.specs.Prelude.{IfSome, IfNone}

pub if_none : {T : Type 0} (o : Option T) (P : Type 0) → P → IfNone o P
if_none None P h = h
if_none (Some x) P h = tt

pub if_none_then : {T : Type 0} (o : Option T) (P Q : Type 0) → (P → Q) → IfNone o P → IfNone o Q
if_none_then None P Q f h = f h
if_none_then (Some x) P Q f h = tt

-- if it is none, what is so of none
pub if_none_by : {T : Type 0} (o : Option T) (P : Type 0) → (o ≡ None → P) → IfNone o P
if_none_by None P f = f refl
if_none_by (Some x) P f = tt

pub of_none : {T : Type 0} (o : Option T) (P : Type 0) → o ≡ None → IfNone o P → P
of_none None P none h = h
of_none (Some x) P none h = cc

-- of none, all is so of some
pub none_some : {T : Type 0} (o : Option T) (P : T → Type 0) → o ≡ None → IfSome o P
none_some None P none = tt
none_some (Some x) P none = cc

pub all_some : {T : Type 0} (o : Option T) (P : T → Type 0) → ((x : T) → P x) → IfSome o P
all_some None P f = tt
all_some (Some x) P f = f x

pub if_some : {T : Type 0} (o : Option T) (P Q : T → Type 0) → ((x : T) → P x → Q x) → IfSome o P → IfSome o Q
if_some None P Q f h = tt
if_some (Some x) P Q f h = f x h
