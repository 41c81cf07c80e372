-- Calls that failed, among more and more that may be asked.
use Rattle.std.proofs.Common.{◌≡◌, ℕ, suc, ◌<◌, ◌+◌, List, [], ◌∷◌, ◌++◌, length, drop, get_or, Contains, Option, None, Result, Ok, Err, sym, ap, ◌∙◌, add-one, subst}
use Rattle.std.proofs.Math.Seq.{drop-cons}
use Rattle.std.proofs.lemmas.List.Elements.{Contains-append_right}
use Rattle.toml.specs.Data.{Members}
use Rattle.toml_tables.specs.Results.{and_then}
use Rattle.tame_names.specs.Standing.{Host}
use Rattle.tame_names.specs.declared.errors.Error.{Error}
use Rattle.tame_names.specs.declared.errors.Error.TheVariants as error
use Rattle.tame_names.specs.declared.errors.IoKind.TheVariants as io
use Rattle.tame_names.specs.declared.host.FailedCall.{FailedCall}
use Rattle.tame_location.specs.Calls.{AddsBy, AddsFailed, read_call}
use Rattle.tame_location.specs.Settings.{answer_at, first_answer, or_next, reads, unless_answered}

-- ---- among more calls

module _ (may wide : FailedCall → Type 0) (more : (call : FailedCall) → may call → wide call) (before now : List FailedCall) where
  pub wider_err : (e : Error) → AddsBy may before now e → AddsBy wide before now e
  wider_err (error.Cache x) h = h
  wider_err (error.NonUtf8Path x) h = h
  wider_err (error.NonUtf8EnvVar x) h = h
  wider_err (error.InvalidKrateName x) h = h
  wider_err (error.UnknownRegistry x) h = h
  wider_err (error.Io io.Failed) h = (h.0, h.1, h.2, more h.0 h.3)
  wider_err (error.Io io.NotFound) h = h
  wider_err (error.Io io.NotADirectory) h = h
  wider_err (error.Io (io.AlreadyExists n)) h = h
  wider_err (error.Io io.UnexpectedEof) h = h
  wider_err (error.Io io.InvalidData) h = h
  wider_err (error.Io io.NoHome) h = h
  wider_err (error.IoPath io.Failed path) h = (h.0, more (read_call path) h.1)
  wider_err (error.IoPath io.NotFound path) h = h
  wider_err (error.IoPath io.NotADirectory path) h = h
  wider_err (error.IoPath (io.AlreadyExists n) path) h = h
  wider_err (error.IoPath io.UnexpectedEof path) h = h
  wider_err (error.IoPath io.InvalidData path) h = h
  wider_err (error.IoPath io.NoHome path) h = h
  wider_err (error.InvalidUrl x) h = h
  wider_err (error.Json line) h = h
  wider_err error.Toml h = h
  wider_err error.NoCrateVersions h = h
  wider_err (error.Http x) h = h
  wider_err error.Semver h = h
  wider_err (error.Lock x) h = h
  wider_err (error.InvalidJsonLines x) h = h
  wider_err (error.Local x) h = h
  wider_err error.NoCargoVersion h = h
  wider_err error.NoMemory h = h

  pub wider : (T : Type 0) (r : Result T Error) → AddsFailed may before now r → AddsFailed wide before now r
  wider T (Ok a) h = h
  wider T (Err e) h = wider_err e h

-- ---- the search in files

module _ (A : Type 0) (answer : List ℕ → Members → Option A) (host : Host) (paths : List (List ℕ)) (i : ℕ) (path : List ℕ)
    (low : i < length paths) (is : path ≡ get_or paths i path) (none : answer_at answer host path ≡ Ok None) where
  left : drop i paths ≡ path ∷ drop (i + 1) paths
  left = rw add-one (drop-cons paths i path low ∙ ap (λ p. p ∷ drop (suc i) paths) (sym is))

  -- a file that has no answer leaves it to those after it
  pub answer_rest : first_answer answer host (drop i paths) ≡ first_answer answer host (drop (i + 1) paths)
  answer_rest = ap (first_answer answer host) left ∙ ap (and_then (λ found. or_next found (first_answer answer host (drop (i + 1) paths)))) none

  -- and those are read
  pub reads_rest : (call : FailedCall) → Contains (reads answer host (drop (i + 1) paths)) call → Contains (reads answer host (drop i paths)) call
  reads_rest call h =
      let behind : reads answer host (path ∷ drop (i + 1) paths) ≡ read_call path ∷ reads answer host (drop (i + 1) paths)
      = ap (λ r. read_call path ∷ unless_answered r (reads answer host (drop (i + 1) paths))) none in
      let P : List FailedCall → Type 0 = λ l. Contains l call in
      subst P (sym (ap (reads answer host) left ∙ behind)) (Contains-append_right (read_call path ∷ []) (reads answer host (drop (i + 1) paths)) call h)

-- ---- calls in a row

-- those after a search that gave no answer
pub asked_behind : {A : Type 0} (xs ys : List FailedCall) (r : Result (Option A) Error) → r ≡ Ok None
    → (call : FailedCall) → Contains ys call → Contains (xs ++ unless_answered r ys) call
asked_behind {A} xs ys r none call h =
    let P : Result (Option A) Error → Type 0 = λ o. Contains (xs ++ unless_answered o ys) call in
    subst P (sym none) (Contains-append_right xs ys call h)

-- those that a result asks for
pub asked_by : {A : Type 0} (xs : List FailedCall) (f : Result (Option A) Error → List FailedCall) (r : Result (Option A) Error) (o : Option A)
    → r ≡ Ok o → (call : FailedCall) → Contains (f (Ok o)) call → Contains (xs ++ f r) call
asked_by {A} xs f r o is call h =
    let P : Result (Option A) Error → Type 0 = λ x. Contains (xs ++ f x) call in
    subst P (sym is) (Contains-append_right xs (f (Ok o)) call h)
