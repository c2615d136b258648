-- A report with the decisions of caches, if there are any.
use Rattle.std.proofs.Common.{◌≡◌, ℕ, suc, ◌+◌, ◌++◌, Bool, false, ◌||◌, List, [], length, get_or}
use Rattle.std.proofs.Common.{Option, Some, None, refl, ap, ◌∙◌, append-nil}
use Rattle.std.specs.Str.Lines.{lines}
use Rattle.sf_lint.specs.declared.settings.CacheSettings.{CacheSettings}
use Rattle.sf_lint.specs.declared.settings.Settings.{Settings}
use Rattle.sf_lint.specs.Head.{line_of}
use Rattle.sf_lint.specs.Heads.{MayDecide, ReportsLinesWith, ReportsWith}
use Rattle.sf_lint.specs.Report.{ReportsLine, others_text, shown}

pub reports-none : (caches : Option CacheSettings) (s : Settings) (ls : List (List ℕ))
    (text : List ℕ) (refused : Bool) (others : ℕ)
    → (text ≡ []) × (refused ≡ false) × (others ≡ 0)
    → ReportsLinesWith caches s ls 0 text refused others
reports-none None s ls text refused others h = h
reports-none (Some caches) s ls text refused others h = h

pub reports-all : (caches : Option CacheSettings) (s : Settings) (input reported text : List ℕ)
    (refused : Bool) (others : ℕ)
    → ReportsLinesWith caches s (lines input) (length (lines input)) reported refused others
    → text ≡ reported ++ shown s (others_text others) → ReportsWith caches s input text refused
reports-all None s input reported text refused others r e = (reported, others, r, e)
reports-all (Some caches) s input reported text refused others r e = (reported, others, r, e)

-- one line more
pub reports-more : (caches : Option CacheSettings) (s : Settings) (ls : List (List ℕ)) (n : ℕ)
    (before line decided text longer : List ℕ) (r r' : Bool) (o o' : ℕ)
    → ReportsLinesWith caches s ls n before r o
    → ReportsLine s ls n (line_of (get_or ls n [])) line r' o'
    → MayDecide caches ls n decided → text ≡ before ++ line → longer ≡ text ++ decided
    → ReportsLinesWith caches s ls (suc n) longer (r || r') (o + o')
reports-more None s ls n before line decided text longer r r' o o' reported one decides t l =
    record {
      text = before;
      refused = r;
      others = o;
      line_text = line;
      line_refused = r';
      line_others = o';
      reported = reported;
      line_reported = one;
      sum = (l ∙ ap (λ (d : List ℕ). text ++ d) decides ∙ append-nil text ∙ t, refl, refl);
    }
reports-more (Some caches) s ls n before line decided text longer r r' o o' reported one decides t l =
    record {
      text = text;
      decided = decided;
      reported = record {
        text = before;
        refused = r;
        others = o;
        line_text = line;
        line_refused = r';
        line_others = o';
        reported = reported;
        line_reported = one;
        sum = (t, refl, refl);
      };
      decides = decides;
      sum = l;
    }
