-- Prefixes that the same texts complete: refusals after them, and commas after members.
use Rattle.std.specs.List.{slice_get}
use Rattle.std.proofs.Common.{◌≡◌, ℕ, suc, ◌+◌, ◌-◌, ◌<◌, ◌≤◌, List, [], ◌∷◌, ◌++◌, length, take}
use Rattle.std.proofs.Common.{Some, ⊎_elim, refl, sym, ap, ◌∙◌, subst}
use Rattle.std.proofs.Common.{append_assoc, arith, length-append}
use Rattle.std.proofs.Math.Seq.{take-append-add}
use Rattle.sf_value.specs.Ascii.{comma}
use Rattle.sf_value.specs.declared.dialect.Dialect.{Dialect}
use Rattle.sf_value.specs.declared.value.Field.{Field}
use Rattle.sf_value.specs.declared.value.Field.TheVariants as field
use Rattle.sf_value.specs.declared.value.Kind.{Kind}
use Rattle.sf_value.specs.declared.value.Kind.TheVariants as kind
use Rattle.sf_value.specs.declared.value.Member.{Member}
use Rattle.sf_value.specs.Grammar.Words.{Every}
use Rattle.sf_value.specs.Grammar.Classes.{is_ows}
use Rattle.sf_value.specs.Grammar.Pairs.{Pairs}
use Rattle.sf_value.specs.Grammar.Fields.{SpellsField, list_of, dict_of}
use Rattle.sf_value.specs.Grammar.Lines.{Viable}
use Rattle.sf_parse.specs.Interchange.{SpellsSome, AreInterchangeable, RefusalsMove, HasMember}
use Rattle.sf_parse.specs.Interchange.{CommaViable, ForgetsMembers}
use Rattle.sf_parse.specs.Machine.Language.{run}
use Rattle.sf_parse.specs.Machine.Series.{SeriesState, Begin, InMember, Gap, Comma, Series}
use Rattle.sf_parse.specs.Machine.Series.{ResidualSeries, series_step, series_finish, gap_step}
use Rattle.sf_parse.specs.Machine.States.{State, BeforeItem, InsideItem, AfterItem, InList, InDict}
use Rattle.sf_parse.specs.Machine.Items.{item_finish}
use Rattle.sf_parse.specs.Machine.Fields.{Residual, step, finish, begin, list_series, dict_series}
use Rattle.sf_parse.specs.Machine.Fields.{list_finish, dict_finish}
use Rattle.sf_parse.specs.Reaching.{IsReachedBy}
use Rattle.sf_parse.proofs.Machine.Language.{and_then_cases, map_cases, is_none, onward_end}
use Rattle.sf_parse.proofs.Machine.Series.{SeriesLaws}
use Rattle.sf_parse.proofs.Machine.Fields.{list_laws, dict_laws}
use Rattle.sf_parse.proofs.Machines.{cases_le}
use Rattle.sf_parse.proofs.GrammarLaws.{is_read}
use Rattle.sf_parse.proofs.Reaching.{reached_nothing, reaches_more, reached_viable}

slice_get_after : (p s : List ℕ) (n : ℕ) → slice_get (p ++ s) (length p + n) ≡ slice_get s n
slice_get_after [] s n = ap (slice_get s) (let e : 0 + n ≡ n = omega arith in e)
slice_get_after (b ∷ p) s n =
    let e : length (b ∷ p) + n ≡ suc (length p + n) = omega arith in
    ap (slice_get (b ∷ (p ++ s))) e ∙ slice_get_after p s n

module _ (d : Dialect) (kind : Kind) where
  swapped : (p q : List ℕ) → AreInterchangeable d kind p q → AreInterchangeable d kind q p
  swapped p q a u = ((a u).1, (a u).0)

  -- what completes one prefix completes the other, after the same bytes too
  moved_viable : (p q u : List ℕ) → AreInterchangeable d kind p q → Viable d kind (p ++ u)
      → Viable d kind (q ++ u)
  moved_viable p q u a (more, v, h) =
      let joined : SpellsField d kind (p ++ (u ++ more)) v =
      subst (λ y. SpellsField d kind y v) (append_assoc p u more) h in
      let k = (a (u ++ more)).0 (v, joined) in
      (more, k.0, subst (λ y. SpellsField d kind y k.0) (sym (append_assoc q u more)) k.1)

  -- the longest viable prefix goes no further after one than after the other
  moved_longest : (p q s : List ℕ) (n m : ℕ) → AreInterchangeable d kind p q
      → ((i : ℕ) → i ≤ length (q ++ s) → Viable d kind (take i (q ++ s)) → i ≤ length q + n)
      → m ≤ length (p ++ s) → Viable d kind (take m (p ++ s)) → length p < m → m ≤ length p + n
  moved_longest p q s n m a longest within h l =
      let k = m - length p in
      let e : m ≡ length p + k = omega arith in
      let cut : take m (p ++ s) ≡ p ++ take k s =
      ap (λ y. take y (p ++ s)) e ∙ take-append-add p s k in
      let v = moved_viable p q (take k s) a (subst (Viable d kind) cut h) in
      let i = longest (length q + k) (omega (arith, length-append p s, length-append q s))
      (subst (Viable d kind) (sym (take-append-add q s k)) v) in
      omega arith

  moved_byte : (p q s : List ℕ) (n : ℕ)
      → slice_get (q ++ s) (length q + n) ≡ slice_get (p ++ s) (length p + n)
  moved_byte p q s n = slice_get_after q s n ∙ sym (slice_get_after p s n)

  -- a byte may come next after both
  moved_next : (p q s : List ℕ) (n b : ℕ) → AreInterchangeable d kind p q
      → Viable d kind (take (length p + n) (p ++ s) ++ b ∷ [])
      → Viable d kind (take (length q + n) (q ++ s) ++ b ∷ [])
  moved_next p q s n b a h =
      let rejoin : (x : List ℕ)
      → take (length x + n) (x ++ s) ++ b ∷ [] ≡ x ++ (take n s ++ b ∷ []) =
      λ (x : List ℕ). ap (λ y. y ++ b ∷ []) (take-append-add x s n)
      ∙ append_assoc x (take n s) (b ∷ []) in
      subst (Viable d kind) (sym (rejoin q))
      (moved_viable p q (take n s ++ b ∷ []) a (subst (Viable d kind) (rejoin p) h))

  -- the text may end after both
  moved_end : (p q s : List ℕ) (n : ℕ) → AreInterchangeable d kind p q
      → SpellsSome d kind (take (length p + n) (p ++ s))
      → SpellsSome d kind (take (length q + n) (q ++ s))
  moved_end p q s n a h =
      subst (SpellsSome d kind) (sym (take-append-add q s n))
      ((a (take n s)).0 (subst (SpellsSome d kind) (take-append-add p s n) h))

pub refusals_move : RefusalsMove
refusals_move d kind p q s n found expected may_end a r =
    let back = swapped d kind p q a in
    let at = r.is_place in
    let within : length q + n ≤ length (q ++ s) = at.within in
    record {
      unspelled = λ v h. let k = (a s).0 (v, h) in r.unspelled k.0 k.1;
      is_place = record {
        within = omega (arith, within, length-append p s, length-append q s);
        viable = subst (Viable d kind) (sym (take-append-add p s n))
            (moved_viable d kind q p (take n s) back
            (subst (Viable d kind) (take-append-add q s n) at.viable));
        longest = λ m inside h. ⊎_elim (λ l. omega arith)
            (moved_longest d kind p q s n m a at.longest inside h)
            (cases_le m (length p));
      };
      byte = r.byte ∙ moved_byte d kind p q s n;
      next = λ b l. (
        λ e. moved_next d kind q p s n b back ((r.next b l).0 e),
        λ v. (r.next b l).1 (moved_next d kind p q s n b a v),
      );
      some = r.some;
      ends = (
        λ e. moved_end d kind q p s n back (r.ends.0 e),
        λ h. r.ends.1 (moved_end d kind p q s n a h),
      );
    }

-- after a comma
abbrev IsComma : Kind → State → Type 0
IsComma kind.Item s = ⊥
IsComma kind.List s = (ms : List Member) × (s ≡ InList (Comma ms))
IsComma kind.Dict s = (ps : Pairs Member) × (s ≡ InDict (Comma ps))

module _ {S X V : Type 0} (k : Series S X V) (law : SeriesLaws S X V k) where
  -- where a series may end after a member, it takes a comma
  takes_comma : (s : SeriesState S V) (v : V) → series_finish k.finish k.none k.add s ≡ Some v
      → (v ≡ k.none → ⊥) → (given : V) × (series_step k s 44 ≡ Some (Comma given))
  takes_comma Begin v e n = absurd (n (let i : v ≡ k.none = cc in i))
  takes_comma (InMember given s) v e n =
      let c = and_then_cases (k.finish s) (λ x. Some (k.add given x)) v e in
      let no = is_none (k.step s 44) (λ t m. law.apart s c.0 44 t c.1 m refl) in (
        k.add given c.0,
        onward_end (InMember given) (k.step s 44) (k.finish s)
            (λ x. gap_step (k.add given x) 44) c.0
            no c.1,
      )
  takes_comma (Gap given) v e n = (given, refl)
  takes_comma (Comma given) v e n = absurd cc

  -- the members before a comma make no difference to what completes it
  forgets : (given other : V) (u : List ℕ) (v : V) → ResidualSeries k (Comma given) u v
      → (w : V) × ResidualSeries k (Comma other) u w
  forgets given other u v (
    white,
    rest,
    e,
    f,
    (x, prefix, suffix, e', s, (xs, body, tail, e'', c, w, i)),
  ) = (
    k.all (k.add other x) xs,
    (white, rest, e, f, (x, prefix, suffix, e', s, (xs, body, tail, e'', c, w, refl))),
  )

abbrev listed : Field → List Member
listed (field.Item i) = []
listed (field.List l) = l.members
listed (field.Dict m) = []

abbrev entries : Field → Pairs Member
entries (field.Item i) = []
entries (field.List l) = []
entries (field.Dict m) = m.members

module _ (d : Dialect) where
  -- white space after a comma
  stays_list : (ms : List Member) (white : List ℕ) → Every is_ows white
      → run (step d) (InList (Comma ms)) white ≡ Some (InList (Comma ms))
  stays_list ms [] e = refl
  stays_list ms (b ∷ white) e = rw e.0 (stays_list ms white e.1)

  stays_dict : (ps : Pairs Member) (white : List ℕ) → Every is_ows white
      → run (step d) (InDict (Comma ps)) white ≡ Some (InDict (Comma ps))
  stays_dict ps [] e = refl
  stays_dict ps (b ∷ white) e = rw e.0 (stays_dict ps white e.1)

  list_comma : (s : State) (l : List Member) → finish s ≡ Some (list_of l) → 0 < length l
      → (ms : List Member) × (step d s 44 ≡ Some (InList (Comma ms)))
  list_comma BeforeItem l e h = absurd cc
  list_comma (InsideItem s) l e h =
      let c = and_then_cases (item_finish s) (λ i. Some (field.Item i)) (list_of l) e in
      let n : Some (field.Item c.0) ≡ Some (list_of l) = c.2 in absurd cc
  list_comma (AfterItem i) l e h = absurd cc
  list_comma (InList s) l e h =
      let c = map_cases list_of (list_finish s) (list_of l) e in
      let same : l ≡ c.0 = ap listed c.2 in
      let k = takes_comma (list_series d) (list_laws d) s c.0 c.1
      (λ none. absurd (let n : ⊥ = omega (arith, h, ap length same, ap length none) in n)) in
      (k.0, rw k.1 refl)
  list_comma (InDict s) l e h =
      let c = map_cases dict_of (dict_finish s) (list_of l) e in
      let n : list_of l ≡ dict_of c.0 = c.2 in absurd cc

  dict_comma : (s : State) (m : Pairs Member) → finish s ≡ Some (dict_of m) → 0 < length m
      → (ps : Pairs Member) × (step d s 44 ≡ Some (InDict (Comma ps)))
  dict_comma BeforeItem m e h = absurd cc
  dict_comma (InsideItem s) m e h =
      let c = and_then_cases (item_finish s) (λ i. Some (field.Item i)) (dict_of m) e in
      let n : Some (field.Item c.0) ≡ Some (dict_of m) = c.2 in absurd cc
  dict_comma (AfterItem i) m e h = absurd cc
  dict_comma (InList s) m e h =
      let c = map_cases list_of (list_finish s) (dict_of m) e in
      let n : dict_of m ≡ list_of c.0 = c.2 in absurd cc
  dict_comma (InDict s) m e h =
      let c = map_cases dict_of (dict_finish s) (dict_of m) e in
      let same : m ≡ c.0 = ap entries c.2 in
      let k = takes_comma (dict_series d) (dict_laws d) s c.0 c.1
      (λ none. absurd (let n : ⊥ = omega (arith, h, ap length same, ap length none) in n)) in
      (k.0, rw k.1 refl)

  -- the state after a text
  reached : (kind : Kind) (t : List ℕ) (v : Field) → SpellsField d kind t v
      → (s : State) × IsReachedBy d kind s t × (finish s ≡ Some v)
  reached kind t v h =
      let c = and_then_cases (run (step d) (begin kind) t) finish v ((is_read d kind t v).0 h) in
      (c.0, reaches_more d kind (begin kind) c.0 [] t (reached_nothing d kind) c.1, c.2)

  -- the state after members and a comma
  after_comma : (kind : Kind) (t white : List ℕ) (v : Field) → SpellsField d kind t v → HasMember v
      → Every is_ows white
      → (s : State) × IsComma kind s × IsReachedBy d kind s (t ++ comma ∷ white)
  after_comma kind.List t white (field.List l) h m e =
      let r = reached kind.List t (field.List l) h in
      let k = list_comma r.0 l.members r.2 m in (
        InList (Comma k.0),
        (k.0, refl),
        reaches_more d kind.List r.0 (InList (Comma k.0)) t (comma ∷ white) r.1
            (rw k.1 (stays_list k.0 white e)),
      )
  after_comma kind.Dict t white (field.Dict l) h m e =
      let r = reached kind.Dict t (field.Dict l) h in
      let k = dict_comma r.0 l.members r.2 m in (
        InDict (Comma k.0),
        (k.0, refl),
        reaches_more d kind.Dict r.0 (InDict (Comma k.0)) t (comma ∷ white) r.1
            (rw k.1 (stays_dict k.0 white e)),
      )
  after_comma k t white (field.Item i) h m e = absurd m
  after_comma k t white v h m e = absurd h

  -- such states are completed by the same texts
  alike : (kind : Kind) (s s' : State) (u : List ℕ) (v : Field) → IsComma kind s → IsComma kind s'
      → Residual d s u v → (w : Field) × Residual d s' u w
  alike kind.Item s s' u v c c' h = absurd c
  alike kind.List s s' u v (ms, e) (ms', e') h =
      let r = subst (λ y. Residual d y u v) e h in
      let k = forgets (list_series d) (list_laws d) ms ms' u r.0 r.1 in
      (list_of k.0, subst (λ y. Residual d y u (list_of k.0)) (sym e') (k.0, k.1, refl))
  alike kind.Dict s s' u v (ps, e) (ps', e') h =
      let r = subst (λ y. Residual d y u v) e h in
      let k = forgets (dict_series d) (dict_laws d) ps ps' u r.0 r.1 in
      (dict_of k.0, subst (λ y. Residual d y u (dict_of k.0)) (sym e') (k.0, k.1, refl))

  alike_text : (kind : Kind) (s s' : State) (p p' u : List ℕ) → IsComma kind s → IsComma kind s'
      → IsReachedBy d kind s p → IsReachedBy d kind s' p' → SpellsSome d kind (p ++ u)
      → SpellsSome d kind (p' ++ u)
  alike_text kind s s' p p' u c c' r r' (v, h) =
      let k = alike kind s s' u v c c' ((r.completes u v).1 h) in
      (k.0, (r'.completes u k.0).0 k.1)

pub comma_viable : CommaViable
comma_viable d kind t white v h m e =
    let a = after_comma d kind t white v h m e in
    reached_viable d kind a.0 (t ++ comma ∷ white) a.2

pub members_forgotten : ForgetsMembers
members_forgotten d kind t t' white white' v v' h m e h' m' e' u =
    let a = after_comma d kind t white v h m e in
    let b = after_comma d kind t' white' v' h' m' e' in
    let p = t ++ comma ∷ white in
    let q = t' ++ comma ∷ white' in (
      alike_text d kind a.0 b.0 p q u a.1 b.1 a.2 b.2,
      alike_text d kind b.0 a.0 q p u b.1 a.1 b.2 a.2,
    )
