-- Reading a file one piece after the other.
use Rattle.std.proofs.Common.{◌≡◌, ℕ, zero, suc, ◌-◌, List, [], ◌∷◌, true, false, Result, Ok, Err, take, drop, refl, ap, sym, subst, ◌∙◌}
use Rattle.std.specs.List.{prefix_len}
use Rattle.vh_base.specs.Classes.{is_space, is_name_start}
use Rattle.vh_base.specs.declared.place.Place.{Place}
use Rattle.vh_lex.specs.declared.fault.Halt.{Halt}
use Rattle.vh_lex.specs.declared.fault.Halt.TheVariants as halt
use Rattle.vh_lex.specs.declared.fault.Stop.{Stop as StopOf}
use Rattle.vh_lex.specs.declared.token.Kind.{Kind}
use Rattle.vh_lex.specs.declared.piece.Part.TheVariants as part
use Rattle.vh_lex.specs.declared.piece.Piece.{Piece}
use Rattle.vh_lex.specs.declared.piece.Piece.TheVariants as piece
use Rattle.vh_lex.specs.Conditionals.{skips}
use Rattle.vh_lex.specs.Directives.{Step}
use Rattle.vh_lex.specs.Beginning.{beginning, word_at}
use Rattle.vh_lex.specs.Gathered.{Gathered}
use Rattle.vh_lex.specs.Outcomes.{Makes, Went, stop_of}
use Rattle.vh_lex.specs.State.{State, moved}
use Rattle.vh_lex.specs.Spelling.{Stop, made_in, with_token, skipped, part_read, piece_read, step, step_then, read_after, read}

-- In skipped text
pub step-skips : (bytes : List ℕ) (s t : State) (result : Result ℕ StopOf) → skips s.conditionals ≡ true → Went (skipped bytes s) result t → Went (step bytes s) result t
step-skips bytes s t result e h = subst (λ (o : Step). Went o result t) (sym (is-skipped e)) h
  where
    is-skipped : skips s.conditionals ≡ true → step bytes s ≡ skipped bytes s
    is-skipped e = rw e refl

-- What bytes begin with, by their first one
pub beginning-blank : (byte : ℕ) (behind bytes : List ℕ) → bytes ≡ byte ∷ behind → is_space byte ≡ true → beginning bytes ≡ piece.Blank (prefix_len is_space bytes)
beginning-blank byte behind bytes same f = rw same (first f)
  where
    first : is_space byte ≡ true → beginning (byte ∷ behind) ≡ piece.Blank (prefix_len is_space (byte ∷ behind))
    first f = rw f refl

pub beginning-word : (byte : ℕ) (behind bytes : List ℕ) → bytes ≡ byte ∷ behind → is_space byte ≡ false → is_name_start byte ≡ true → beginning bytes ≡ word_at bytes
beginning-word byte behind bytes same f g = rw same (first f g)
  where
    first : is_space byte ≡ false → is_name_start byte ≡ true → beginning (byte ∷ behind) ≡ word_at (byte ∷ behind)
    first f g = rw (f, g) refl

-- In text that is read
pub step-read : (bytes : List ℕ) (s t : State) (result : Result ℕ StopOf) → skips s.conditionals ≡ false → Went (piece_read (beginning bytes) bytes s) result t
    → Went (step bytes s) result t
step-read bytes s t result e h = subst (λ (o : Step). Went o result t) (sym (is-read e)) h
  where
    is-read : skips s.conditionals ≡ false → step bytes s ≡ piece_read (beginning bytes) bytes s
    is-read e = rw e refl

-- Where this piece stands there
pub beginning-read : (bytes : List ℕ) (s t : State) (p : Piece) (result : Result ℕ StopOf) → beginning bytes ≡ p → Went (piece_read p bytes s) result t
    → Went (piece_read (beginning bytes) bytes s) result t
beginning-read bytes s t p result f h = subst (λ (q : Piece). Went (piece_read q bytes s) result t) (sym f) h

pub step-piece : (bytes : List ℕ) (s t : State) (p : Piece) (result : Result ℕ StopOf) → skips s.conditionals ≡ false → beginning bytes ≡ p
    → Went (piece_read p bytes s) result t → Went (step bytes s) result t
step-piece bytes s t p result e f h = step-read bytes s t result e (beginning-read bytes s t p result f h)

-- Passing over bytes is reading what follows them
pub passed : (skip : ℕ) (bytes : List ℕ) (s : State) → read_after skip bytes s ≡ read (drop skip bytes) s
passed zero [] s = refl
passed zero (byte ∷ bytes) s = refl
passed (suc skip) [] s = refl
passed (suc skip) (byte ∷ bytes) s = passed skip bytes s

-- A piece more is read
pub read-more : (all : Result State Stop) (byte : ℕ) (bytes rest : List ℕ) (s t : State) (len : ℕ) (place : Place) → rest ≡ byte ∷ bytes → step rest s ≡ Ok (t, len) → place ≡ moved (take len rest) s.place
    → all ≡ read rest s → all ≡ read (drop (len - 1) bytes) (record t { place = place })
read-more all byte bytes rest s t len place same e f h =
    h ∙ ap (λ (r : List ℕ). read r s) same
    ∙ ap (λ (o : Step). step_then o (byte ∷ bytes) s.place (λ skip went. read_after skip bytes went)) (ap (λ (r : List ℕ). step r s) (sym same) ∙ e)
    ∙ passed (len - 1) bytes (record t { place = moved (take len (byte ∷ bytes)) s.place })
    ∙ ap (λ (p : Place). read (drop (len - 1) bytes) (record t { place = p })) (ap (λ (r : List ℕ). moved (take len r) s.place) (sym same) ∙ sym f)

-- What was made is the step of a token
pub made-went : (kind : Kind) (bytes : List ℕ) (s : State) (m : Gathered) (outcome : Result (Unit {0}) Halt) → Makes (with_token kind s.place s.made) outcome m
    → Went (part_read (part.Token kind) 1 bytes s) (stop_of 1 outcome) (record s { made = m })
made-went kind bytes s m (Ok done) h = ap (made_in s 1) h
made-went kind bytes s m (Err (halt.Fault fault)) h = ap (made_in s 1) h
made-went kind bytes s m (Err halt.NoMemory) h = tt
