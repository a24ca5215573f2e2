-- Lemmas on `specs/Calls.antt`: the text of a call, argument by argument.
use Rattle.std.proofs.Common.{◌≡◌, ◌∙◌, ◌<◌, ◌≤◌, ◌+◌, ◌++◌, ℕ, List, length, get_or, drop, Option, sym, ap, append_assoc}
use Rattle.std.proofs.lemmas.List.{at_drop_more, drop_all}
use Rattle.vh_design_code.specs.declared.show.ShowArg.{ShowArg}
use Rattle.vh_display.specs.declared.conversion.Conversion.{Conversion}
use Rattle.vh_display.specs.declared.format.Mode.TheVariants as mode
use Rattle.vh_display.specs.Formats.{front}
use Rattle.vh_display.specs.Calls.{with_argument, arguments_text}

pub arguments_next : (name : List ℕ) (show : Conversion → ℕ → List ℕ) (format : List ℕ) (args : List ShowArg) (i : ℕ) (d a : ShowArg)
    (out mid new rest : List ℕ) (w : Option (Conversion × List ℕ)) → i < length args → a ≡ get_or args i d
    → mid ≡ out ++ (front name mode.Plain format).text → w ≡ (front name mode.Plain format).wants
    → ((go : List ℕ → List ℕ) → new ++ go rest ≡ mid ++ with_argument show go w a)
    → new ++ arguments_text name show rest (drop (i + 1) args) ≡ out ++ arguments_text name show format (drop i args)
unfolding arguments_text
arguments_next name show format args i d a out mid new rest w inside item text wants step =
    let go : List ℕ → List ℕ = λ r. arguments_text name show r (drop (i + 1) args) in
    let f = front name mode.Plain format in
    step go
    ∙ ap (λ (t : List ℕ). t ++ with_argument show go w a) text
    ∙ ap (λ (x : Option (Conversion × List ℕ)). (out ++ f.text) ++ with_argument show go x a) wants
    ∙ ap (λ (b : ShowArg). (out ++ f.text) ++ with_argument show go f.wants b) item
    ∙ append_assoc out f.text (with_argument show go f.wants (get_or args i d))
    ∙ sym (at_drop_more (λ (xs : List ShowArg). out ++ arguments_text name show format xs) args i d inside)

pub arguments_end : (name : List ℕ) (show : Conversion → ℕ → List ℕ) (format : List ℕ) (args : List ShowArg) (i : ℕ)
    (out new : List ℕ) → length args ≤ i → new ≡ out ++ (front name mode.Plain format).text
    → new ≡ out ++ arguments_text name show format (drop i args)
unfolding arguments_text
arguments_end name show format args i out new past text =
    text ∙ sym (ap (λ (xs : List ShowArg). out ++ arguments_text name show format xs) (drop_all i args past))
