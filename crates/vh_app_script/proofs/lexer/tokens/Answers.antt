-- A piece more is cut off.
use Rattle.std.proofs.Common.{refl}
use Rattle.std.proofs.lemmas.List.{map-append}
use Rattle.vh_app_script.specs.Views.{token_seen, kind_seen}
use Rattle.vh_app_script.proofs.Cutting.{token-more, token-long, blank-more, blank-long, shorter}
use Rattle.vh_app_script.proofs.lexer.tokens.Goals as goal

pub split_at-requires : goal.split_at-requires
split_at-requires c = (blank-long _ _ c.in-Blank.ensures).1

pub split_at-requires-in-Token : goal.split_at-requires-in-Token
split_at-requires-in-Token c = (token-long _ _ _ c.in-Token.ensures).1

pub loop-rest-smaller-in-Blank : goal.loop-rest-smaller-in-Blank
loop-rest-smaller-in-Blank c = shorter _ _ _ (blank-long c.in-Blank.length c.loop-rest.rest.now c.in-Blank.ensures) c.split_at.ensures.back_len

pub loop-rest-smaller : goal.loop-rest-smaller
loop-rest-smaller c = shorter _ _ _ (token-long (kind_seen c.in-Token.kind) c.in-Token.length c.loop-rest.rest.now c.in-Token.ensures) c.split_at-in-Token.ensures.back_len

pub loop-rest-preserved-in-Blank : goal.loop-rest-preserved-in-Blank
loop-rest-preserved-in-Blank c = rw c.split_at.ensures.back (blank-more _ c.in-Blank.length c.args.bytes.now c.loop-rest.rest.now c.in-Blank.ensures c.loop-rest.invariant)

pub loop-rest-preserved : goal.loop-rest-preserved
loop-rest-preserved c =
    rw (c.in_ok-push-in-Token.ensures.items, c.split_at-in-Token.ensures.back, map-append token_seen c.loop-rest.found.items)
    (token-more _ (kind_seen c.in-Token.kind) c.in-Token.length _ c.args.bytes.now c.loop-rest.rest.now c.in-Token.ensures refl c.loop-rest.invariant)
