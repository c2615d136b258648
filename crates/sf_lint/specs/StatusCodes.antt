-- Status codes (RFC 9110 section 15), by which a cache may store a response (RFC 9111 section 3).
use Rattle.std.specs.Prelude.{ℕ, Bool, true, ◌&&◌, ◌||◌, ◌==◌, nat_le, List, length}
use Rattle.std.specs.Prelude.{Option, Some, None, is_some, if◌then◌else◌}
use Rattle.std.specs.List.{before_first}
use Rattle.sf_value.specs.Grammar.Classes.{is_sp}
use Rattle.sf_use.specs.declared.caching.CacheKind.{CacheKind}
use Rattle.sf_use.specs.declared.caching.CacheRules.{CacheRules}
use Rattle.sf_use.specs.CacheControl.{delta_seconds}
use Rattle.sf_use.specs.Caching.{permits_storing, understood}
use Rattle.sf_lint.specs.Head.{word_after}

-- "status-code = 3DIGIT" (RFC 9112 section 4)
abbrev pub three_digits : List ℕ → Option ℕ
three_digits word = if length word == 3 then delta_seconds word else None

-- of a status line: what is between the first space and the next one
abbrev pub status_code : List ℕ → Option ℕ
status_code line = three_digits (before_first is_sp (word_after line))

-- a 1xx code is that of an interim response (RFC 9110 section 15.2)
abbrev pub is_final : ℕ → Bool
is_final code = nat_le 200 code

abbrev pub is_from : ℕ → ℕ → ℕ → Bool
is_from low high code = nat_le low code && nat_le code high

-- "defined as heuristically cacheable (e.g., 200, 203, 204, 206, 300, 301, 308, 404, 405, 410, 414,
-- and 501 in this specification)" (RFC 9110 section 15.1)
abbrev pub is_heuristic : ℕ → Bool
is_heuristic code =
    code == 200 || (code == 203 || (code == 204 || (code == 206 || (code == 300 || (code == 301
    || (code == 308 || (code == 404 || (code == 405 || (code == 410 || (code == 414
    || code == 501))))))))))

-- the codes of final responses that RFC 9110 defines (sections 15.3 to 15.6): without 306 and 418,
-- which are unused
abbrev pub is_defined : ℕ → Bool
is_defined code =
    is_from 200 206 code || (is_from 300 305 code || (is_from 307 308 code
    || (is_from 400 417 code || (is_from 421 422 code || (code == 426 || is_from 500 505 code)))))

-- "the cache understands the response status code" (RFC 9111 section 3): ours is that it
-- understands those that RFC 9110 defines
abbrev pub rules_for : Option ℕ → CacheRules → CacheRules
rules_for None r = r
rules_for (Some code) r = if is_defined code then understood r else r

-- "the response status code is final", and "the response contains at least one of the following":
-- a directive, "an Expires header field", or "a status code that is defined as heuristically
-- cacheable" (RFC 9111 section 3); without a status line that is not known
abbrev pub is_storable : Option ℕ → CacheRules → CacheKind → Option ℕ → Bool
is_storable None r kind expires = true
is_storable (Some code) r kind expires =
    is_final code && (permits_storing r kind || (is_some expires || is_heuristic code))
