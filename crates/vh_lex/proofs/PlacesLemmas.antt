-- A place that is moved over bytes is that behind them.
use Rattle.std.proofs.Common.{◌≡◌, ℕ, ◌+◌, List, [], ◌∷◌, ◌++◌, Bool, true, false, cond, not, nat_eq, reverse, if◌then◌else◌, ap, sym, ◌∙◌, append_assoc, append-nil, arith}
use Rattle.std.specs.List.{prefix_len}
use Rattle.std.proofs.lemmas.List.{reverse-append}
use Rattle.std.proofs.lemmas.List.Sums.{sum_by_push}
use Rattle.vh_base.specs.declared.place.Place.{Place}
use Rattle.vh_lex.specs.Bytes.{is_line_end, is_line_byte}
use Rattle.vh_lex.specs.State.{behind, moved}
use Rattle.vh_lex.specs.Places.{lines_in, since_line, place_behind}

abbrev place : ℕ → ℕ → ℕ → Place
place file line column = record { file = file; line = line; column = column }

by-byte : (t : Bool) (file lines since : ℕ) → (if t then place file (1 + lines + 1) 1 else place file (1 + lines) (1 + since + 1)) ≡ place file (1 + (lines + cond t 1 0)) (1 + cond (not t) (1 + since) 0)
by-byte true file lines since = ap (λ l. place file l 1) (omega arith)
by-byte false file lines since = ap (λ l. place file l (1 + since + 1)) (omega arith) ∙ ap (λ c. place file (1 + (lines + 0)) c) (omega arith)

behind-place : (file b : ℕ) (bytes : List ℕ) → behind b (place_behind file bytes) ≡ place_behind file (bytes ++ b ∷ [])
behind-place file b bytes =
    by-byte (nat_eq b 10) file (lines_in bytes) (since_line bytes)
    ∙ ap (λ l. place file (1 + l) (1 + prefix_len is_line_byte (b ∷ reverse bytes))) (sym (sum_by_push (λ x. cond (is_line_end x) 1 0) bytes b))
    ∙ ap (λ r. place file (1 + lines_in (bytes ++ b ∷ [])) (1 + prefix_len is_line_byte r)) (sym (reverse-append bytes (b ∷ [])))

pub moved-place : (file : ℕ) (more bytes : List ℕ) → moved more (place_behind file bytes) ≡ place_behind file (bytes ++ more)
moved-place file [] bytes = ap (place_behind file) (sym (append-nil bytes))
moved-place file (b ∷ more) bytes =
    ap (moved more) (behind-place file b bytes) ∙ moved-place file more (bytes ++ b ∷ []) ∙ ap (place_behind file) (append_assoc bytes (b ∷ []) more)
