-- A table stays sound with one connection more, and with one less.
use Rattle.std.proofs.Common.{◌≡◌, ◌≢◌, ◌∙◌, ◌⊎◌, inl, inr, ℕ, ◌+◌, ◌-◌, ◌<◌, ◌≤◌, Bool, true, false, cond, ◌&&◌, List, length, Option, Some, None, is_some, refl, ap, sym, subst, arith}
use Rattle.std.specs.Prelude.{◌==◌, ◌^◌, ◌||◌, nat_le, IfSome}
use Rattle.std.specs.BTreeMap.{insert_entry, is_at}
use Rattle.std.specs.List.{count_by}
use Rattle.std.specs.Map.{remove_entry, values_of}
use Rattle.std.specs.Option.{option_map}
use Rattle.std.specs.Ordering.{is_eq, nat_cmp}
use Rattle.std.proofs.lemmas.Bool.{cases_eq, eqb-false, eqb-true, eq-eqb, leb-false}
use Rattle.sip_uri.specs.declared.hop.Hop.{Hop}
use Rattle.stream_connections.specs.Changing.{IsAdded, IsFree, IsRefusedBy, IsRemoved, IsSourceFault, IsUnchanged}
use Rattle.stream_connections.specs.Sources.{Sources, HasNow, IsSame, count_of}
use Rattle.stream_connections.specs.Table.{Table, IsSound, connection_in, connection_of, entry_of, is_from, is_full, is_of_peer, last_number, may_open, number_of, opened_by, peer_in, peer_number, source_number, weight}
use Rattle.stream_connections.specs.declared.table.Opener.{Opener}
use Rattle.stream_connections.specs.declared.table.Opener.TheVariants.{Peer, Proxy}
use Rattle.stream_connections.specs.declared.table.TableEntry.{TableEntry}
use Rattle.stream_connections.specs.declared.table.TableFault.{TableFault}
use Rattle.stream_connections.specs.declared.table.TableFault.TheVariants as faults
use Rattle.stream_connections.proofs.Entries.{at, other_key, insert_else, insert_here, length_inserted, counted_inserted, counted_removed}

is_none : {X : Type 0} (o : Option X) → (is_some o ≡ true → ⊥) → o ≡ None
is_none None never = refl
is_none (Some x) never = absurd (never refl)

some_is : (a b : ℕ) → Some a ≡ Some b → a ≡ b
some_is a b e = cc

none_some : (n : ℕ) → None ≡ Some n → ⊥
none_some n same = cc

no_true : false ≡ true → ⊥
no_true same = cc

added_by : (who : Opener) (b : Bool) (x y n : ℕ) → (b ≡ true → x ≡ n) → (b ≡ false → y ≡ n) → cond b (x + weight who) y ≡ n + cond (is_of_peer who && b) 1 0
added_by Peer true x y n here past = let same : x ≡ n = here refl in omega (arith, same)
added_by Peer false x y n here past = let same : y ≡ n = past refl in omega (arith, same)
added_by Proxy true x y n here past = let same : x ≡ n = here refl in omega (arith, same)
added_by Proxy false x y n here past = let same : y ≡ n = past refl in omega (arith, same)

removed_by : (who : Opener) (b : Bool) (x y n k : ℕ) → k + cond (is_of_peer who && b) 1 0 ≡ n → (b ≡ true → x ≡ n) → (b ≡ false → y ≡ n) → cond b (x - weight who) y ≡ k
removed_by Peer true x y n k rest here past = let same : x ≡ n = here refl in omega (arith, same, rest)
removed_by Peer false x y n k rest here past = let same : y ≡ n = past refl in omega (arith, same, rest)
removed_by Proxy true x y n k rest here past = let same : x ≡ n = here refl in omega (arith, same, rest)
removed_by Proxy false x y n k rest here past = let same : y ≡ n = past refl in omega (arith, same, rest)

module _ {C : Type 0} where
  -- no connection has the next number
  pub next_is_free : (t : Table C) → IsSound t → entry_of t t.next ≡ None
  next_is_free t sound = is_none (entry_of t t.next) (λ e. let below = sound.fresh t.next e in absurd (omega (arith, below)))

  has_peer : (peer : ℕ) (o : Option (TableEntry C)) → option_map peer_in o ≡ Some peer → is_some o ≡ true
  has_peer peer None never = absurd (none_some peer never)
  has_peer peer (Some x) same = refl

  abbrev pub entry_for : Hop → Opener → C → TableEntry C
  entry_for hop opener connection = record { peer = peer_number hop; source = source_number hop; opener = opener; connection = connection }

  abbrev pub with_one : Table C → TableEntry C → Sources → Table C
  with_one t e sources = record {
    most = t.most;
    next = t.next + 1;
    connections = insert_entry nat_cmp t.connections t.next e;
    peers = insert_entry nat_cmp t.peers e.peer t.next;
    sources = sources;
  }

  pub sound_added : (t : Table C) (e : TableEntry C) (sources : Sources) → IsSound t → length t.connections < t.most
      → HasNow t.sources e.source (count_of t.sources e.source + weight e.opener) sources → IsSound (with_one t e sources)
  sound_added t e sources sound room has = record {
    few = let more = length_inserted t.next e t.connections free in omega (arith, more);
    fresh = λ number there. by_number number (cases_eq number t.next) there;
    named = λ peer number there. by_peer peer number (cases_eq peer e.peer) there;
    counted = λ source. has.1 source ∙ added source ∙ sym (counted_inserted (is_from source) t.next e t.connections free);
  }
    where
      free : at t.next t.connections ≡ None
      free = next_is_free t sound

      by_number : (number : ℕ) → (number ≡ t.next) ⊎ (number ≡ t.next → ⊥) → is_some (at number (insert_entry nat_cmp t.connections t.next e)) ≡ true → number < t.next + 1
      by_number number (inl same) there = omega (arith, same)
      by_number number (inr apart) there =
          let below = sound.fresh number (ap is_some (sym (insert_else t.next number e t.connections apart)) ∙ there) in omega (arith, below)

      by_peer : (peer number : ℕ) → (peer ≡ e.peer) ⊎ (peer ≡ e.peer → ⊥) → at peer (insert_entry nat_cmp t.peers e.peer t.next) ≡ Some number
          → option_map peer_in (at number (insert_entry nat_cmp t.connections t.next e)) ≡ Some peer
      by_peer peer number (inl same) there =
          let is : t.next ≡ number = some_is t.next number (sym (insert_here e.peer t.next t.peers) ∙ ap (λ (p : ℕ). at p (insert_entry nat_cmp t.peers e.peer t.next)) (sym same) ∙ there) in
          ap (λ (n : ℕ). option_map peer_in (at n (insert_entry nat_cmp t.connections t.next e))) (sym is)
          ∙ ap (λ (o : Option (TableEntry C)). option_map peer_in o) (insert_here t.next e t.connections)
          ∙ ap (λ (p : ℕ). Some p) (sym same)
      by_peer peer number (inr apart) there =
          let was = sound.named peer number (sym (insert_else e.peer peer t.next t.peers apart) ∙ there) in
          let below = sound.fresh number (has_peer peer (at number t.connections) was) in
          ap (λ (o : Option (TableEntry C)). option_map peer_in o) (insert_else t.next number e t.connections (λ same. absurd (omega (arith, below, same)))) ∙ was

      added : (source : ℕ) → (cond (e.source == source) (count_of t.sources e.source + weight e.opener) (count_of t.sources source)) ≡ opened_by source t + cond (is_from source e) 1 0
      added source =
          added_by e.opener (e.source == source) (count_of t.sources e.source) (count_of t.sources source) (opened_by source t)
          (λ is. ap (λ (a : ℕ). count_of t.sources a) (eqb-true e.source source is) ∙ sound.counted source) (λ is. sound.counted source)

  abbrev pub without_one : Table C → ℕ → List (ℕ × ℕ) → Sources → Table C
  without_one t number peers sources = record t { connections = remove_entry (is_at (nat_cmp number)) t.connections; peers = peers; sources = sources }

  -- the other connections stay
  pub sound_removed : (t : Table C) (number : ℕ) (e : TableEntry C) (peers : List (ℕ × ℕ)) (sources : Sources) → IsSound t → at number t.connections ≡ Some e
      → length (remove_entry (is_at (nat_cmp number)) t.connections) ≤ length t.connections
      → at number (remove_entry (is_at (nat_cmp number)) t.connections) ≡ None
      → ((q : ℕ) → q ≢ number → at q (remove_entry (is_at (nat_cmp number)) t.connections) ≡ at q t.connections)
      → (at e.peer peers ≡ Some number → ⊥)
      → ((p m : ℕ) → at p peers ≡ Some m → at p t.peers ≡ Some m)
      → HasNow t.sources e.source (count_of t.sources e.source - weight e.opener) sources
      → IsSound (without_one t number peers sources)
  sound_removed t number e peers sources sound is fewer gone others free only has = record {
    few = let before = sound.few in omega (arith, before, fewer);
    fresh = λ q there. by_number q (cases_eq q number) there;
    named = λ peer q there. by_peer peer q (cases_eq q number) there (sound.named peer q (only peer q there));
    counted = λ source. has.1 source ∙ removed source;
  }
    where
      by_number : (q : ℕ) → (q ≡ number) ⊎ (q ≡ number → ⊥) → is_some (at q (remove_entry (is_at (nat_cmp number)) t.connections)) ≡ true → q < t.next
      by_number q (inl same) there = absurd (no_true (sym (ap is_some (ap (λ (n : ℕ). at n (remove_entry (is_at (nat_cmp number)) t.connections)) same ∙ gone)) ∙ there))
      by_number q (inr apart) there = sound.fresh q (ap is_some (sym (others q apart)) ∙ there)

      by_peer : (peer q : ℕ) → (q ≡ number) ⊎ (q ≡ number → ⊥) → at peer peers ≡ Some q → option_map peer_in (at q t.connections) ≡ Some peer → option_map peer_in (at q (remove_entry (is_at (nat_cmp number)) t.connections)) ≡ Some peer
      by_peer peer q (inl same) there was =
          let own : e.peer ≡ peer = some_is e.peer peer (sym (ap (λ (o : Option (TableEntry C)). option_map peer_in o) (ap (λ (n : ℕ). at n t.connections) same ∙ is)) ∙ was) in
          absurd (free (ap (λ (p : ℕ). at p peers) own ∙ there ∙ ap (λ (n : ℕ). Some n) same))
      by_peer peer q (inr apart) there was = ap (λ (o : Option (TableEntry C)). option_map peer_in o) (others q apart) ∙ was

      removed : (source : ℕ) → (cond (e.source == source) (count_of t.sources e.source - weight e.opener) (count_of t.sources source)) ≡ count_by (is_from source) (values_of (remove_entry (is_at (nat_cmp number)) t.connections))
      removed source =
          removed_by e.opener (e.source == source) (count_of t.sources e.source) (count_of t.sources source) (opened_by source t) (count_by (is_from source) (values_of (remove_entry (is_at (nat_cmp number)) t.connections)))
          (counted_removed (is_from source) number e t.connections is)
          (λ same. ap (λ (a : ℕ). count_of t.sources a) (eqb-true e.source source same) ∙ sound.counted source) (λ same. sound.counted source)

-- counted as opened and then as closed, as many are there as before
pub back_again : (old mid new : Sources) (who : Opener) (source : ℕ) → HasNow old source (count_of old source + weight who) mid
    → HasNow mid source (count_of mid source - weight who) new → IsSame old new
back_again old mid new who source up down = (down.0 ∙ up.0, λ other. down.1 other ∙ by other (source == other) refl)
  where
    here : count_of mid source ≡ count_of old source + weight who
    here = up.1 source ∙ ap (λ (b : Bool). cond b (count_of old source + weight who) (count_of old source)) (eq-eqb source source refl)

    by : (other : ℕ) (b : Bool) → (source == other) ≡ b → cond (source == other) (count_of mid source - weight who) (count_of mid other) ≡ count_of old other
    by other true is =
        let same : source ≡ other = eqb-true source other is in
        let less : count_of mid source - weight who ≡ count_of old source = omega (arith, here) in
        ap (λ (b : Bool). cond b (count_of mid source - weight who) (count_of mid other)) is ∙ less ∙ ap (λ (a : ℕ). count_of old a) same
    by other false is =
        ap (λ (b : Bool). cond b (count_of mid source - weight who) (count_of mid other)) is ∙ up.1 other
        ∙ ap (λ (b : Bool). cond b (count_of old source + weight who) (count_of old other)) is

module _ {C : Type 0} where
  -- where nothing but the counts is another value, and each is as it was
  pub sound_same : (t : Table C) (sources : Sources) → IsSound t → IsSame t.sources sources → IsSound (record t { sources = sources })
  sound_same t sources sound same = record {
    few = sound.few;
    fresh = sound.fresh;
    named = sound.named;
    counted = λ source. same.1 source ∙ sound.counted source;
  }

  -- who has a peer is there
  pub there_of : (t : Table C) (peer : ℕ) (o : Option ℕ) → IsSound t → o ≡ number_of t peer → IfSome o (λ n. is_some (connection_of t n) ≡ true)
  there_of t peer None sound is = tt
  there_of t peer (Some n) sound is = has (entry_of t n) (sound.named peer n (sym is))
    where
      has : (o : Option (TableEntry C)) → option_map peer_in o ≡ Some peer → is_some (option_map connection_in o) ≡ true
      has None never = absurd (none_some peer never)
      has (Some x) same = refl

  -- what is added is there, and named, and the others stay
  pub added_is_there : (old new : Table C) (number : ℕ) (hop : Hop) (who : Opener) (connection : C) → IsAdded old number hop who connection new → connection_of new number ≡ Some connection
  added_is_there old new number hop who connection is =
      ap (λ (es : List (ℕ × TableEntry C)). option_map connection_in (at number es)) is.connections
      ∙ ap (λ (o : Option (TableEntry C)). option_map connection_in o) (insert_here number (entry_for hop who connection) old.connections)

  pub added_is_named : (old new : Table C) (number : ℕ) (hop : Hop) (who : Opener) (connection : C) → IsAdded old number hop who connection new → number_of new (peer_number hop) ≡ Some number
  added_is_named old new number hop who connection is = ap (λ (es : List (ℕ × ℕ)). at (peer_number hop) es) is.peers ∙ insert_here (peer_number hop) number old.peers

  pub others_stay_there : (old new : Table C) (number : ℕ) (hop : Hop) (who : Opener) (connection : C) → IsAdded old number hop who connection new
      → (other : ℕ) → other ≢ number → connection_of new other ≡ connection_of old other
  others_stay_there old new number hop who connection is other apart =
      ap (λ (es : List (ℕ × TableEntry C)). option_map connection_in (at other es)) is.connections
      ∙ ap (λ (o : Option (TableEntry C)). option_map connection_in o) (insert_else number other (entry_for hop who connection) old.connections apart)

  -- what is added: the table that is seen (old) is the one that stands there (t)
  pub is_added : (t old : Table C) (hop : Hop) (opener : Opener) (connection : C) (connections : List (ℕ × TableEntry C)) (peers : List (ℕ × ℕ)) (sources : Sources) → t ≡ old
      → connections ≡ insert_entry nat_cmp t.connections t.next (entry_for hop opener connection) → peers ≡ insert_entry nat_cmp t.peers (peer_number hop) t.next
      → HasNow t.sources (source_number hop) (count_of t.sources (source_number hop) + weight opener) sources
      → IsAdded old t.next hop opener connection (record { most = t.most; next = t.next + 1; connections = connections; peers = peers; sources = sources })
  is_added t old hop opener connection connections peers sources same inserted named has =
      subst (λ (o : Table C). IsAdded o t.next hop opener connection (record { most = t.most; next = t.next + 1; connections = connections; peers = peers; sources = sources })) same
      (record { was = refl; next = refl; most = refl; connections = inserted; peers = named; sources = has })

  pub is_removed : (t old : Table C) (number : ℕ) (connections : List (ℕ × TableEntry C)) (peers : List (ℕ × ℕ)) (sources : Sources) → t ≡ old
      → connections ≡ remove_entry (is_at (nat_cmp number)) t.connections
      → ((p m : ℕ) → m ≢ number → at p t.peers ≡ Some m → at p peers ≡ Some m)
      → ((p m : ℕ) → at p peers ≡ Some m → at p t.peers ≡ Some m)
      → sources.most ≡ t.sources.most
      → IsRemoved old number (record { most = t.most; next = t.next; connections = connections; peers = peers; sources = sources })
  is_removed t old number connections peers sources same removed stay only most =
      subst (λ (o : Table C). IsRemoved o number (record { most = t.most; next = t.next; connections = connections; peers = peers; sources = sources })) same
      (record { next = refl; most = refl; connections = removed; peers = stay; no_others = only; most_of_source = most })

  pub is_unchanged : (t old : Table C) (connections : List (ℕ × TableEntry C)) (peers : List (ℕ × ℕ)) (sources : Sources) → t ≡ old
      → connections ≡ t.connections → peers ≡ t.peers → IsSame t.sources sources
      → IsUnchanged old (record { most = t.most; next = t.next; connections = connections; peers = peers; sources = sources })
  is_unchanged t old connections peers sources same kept named counted =
      subst (λ (o : Table C). IsUnchanged o (record { most = t.most; next = t.next; connections = connections; peers = peers; sources = sources })) same
      (record { next = refl; most = refl; connections = kept; peers = named; sources = counted })

  -- where the entries are what they were, and each count
  pub sound_unkept : (t : Table C) (connections : List (ℕ × TableEntry C)) (peers : List (ℕ × ℕ)) (sources : Sources) → IsSound t → connections ≡ t.connections → peers ≡ t.peers
      → IsSame t.sources sources → IsSound (record t { connections = connections; peers = peers; sources = sources })
  sound_unkept t connections peers sources sound kept named same =
      subst (λ (es : List (ℕ × TableEntry C)). IsSound (record t { connections = es; peers = peers; sources = sources })) (sym kept)
      (subst (λ (ps : List (ℕ × ℕ)). IsSound (record t { peers = ps; sources = sources })) (sym named) (sound_same t sources sound same))

  abbrev pub entry_with : Opener → C → ℕ → ℕ → TableEntry C
  entry_with who connection peer source = record { peer = peer; source = source; opener = who; connection = connection }

  entry_is : (hop : Hop) (who : Opener) (connection : C) (peer source : ℕ) → peer ≡ peer_number hop → source ≡ source_number hop → entry_with who connection peer source ≡ entry_for hop who connection
  entry_is hop who connection peer source p s =
      ap (λ (n : ℕ). entry_with who connection n source) p ∙ ap (λ (n : ℕ). entry_with who connection (peer_number hop) n) s

  -- by these numbers of its peer and its address
  pub is_added_at : (t old : Table C) (hop : Hop) (who : Opener) (connection : C) (peer source : ℕ) → peer ≡ peer_number hop → source ≡ source_number hop
      → (connections : List (ℕ × TableEntry C)) (peers : List (ℕ × ℕ)) (sources : Sources) → t ≡ old
      → connections ≡ insert_entry nat_cmp t.connections t.next (entry_with who connection peer source) → peers ≡ insert_entry nat_cmp t.peers peer t.next
      → HasNow t.sources source (count_of t.sources source + weight who) sources
      → IsAdded old t.next hop who connection (record { most = t.most; next = t.next + 1; connections = connections; peers = peers; sources = sources })
  is_added_at t old hop who connection peer source p s connections peers sources same inserted named has =
      is_added t old hop who connection connections peers sources same
      (inserted ∙ ap (λ (e : TableEntry C). insert_entry nat_cmp t.connections t.next e) (entry_is hop who connection peer source p s))
      (named ∙ ap (λ (n : ℕ). insert_entry nat_cmp t.peers n t.next) p)
      (subst (λ (n : ℕ). HasNow t.sources n (count_of t.sources n + weight who) sources) s has)

  pub gone_after : (number : ℕ) (connections : List (ℕ × TableEntry C)) → at number connections ≡ None → option_map connection_in (at number connections) ≡ None
  gone_after number connections gone = ap (λ (o : Option (TableEntry C)). option_map connection_in o) gone

  pub others_after : (t old : Table C) (number : ℕ) (connections : List (ℕ × TableEntry C)) → t ≡ old → ((q : ℕ) → is_eq (nat_cmp number q) ≡ false → at q connections ≡ at q t.connections)
      → (other : ℕ) → other ≢ number → option_map connection_in (at other connections) ≡ connection_of old other
  others_after t old number connections same others other apart =
      ap (λ (o : Option (TableEntry C)). option_map connection_in o) (others other (other_key number other apart)) ∙ ap (λ (o : Table C). connection_of o other) same

  pub value_taken : (t old : Table C) (number : ℕ) (e : TableEntry C) → t ≡ old → at number t.connections ≡ Some e → Some e.connection ≡ connection_of old number
  value_taken t old number e same is = sym (ap (λ (o : Option (TableEntry C)). option_map connection_in o) is) ∙ ap (λ (o : Table C). connection_of o number) same

  pub sound_kept : (t : Table C) (e : TableEntry C) (connections : List (ℕ × TableEntry C)) (peers : List (ℕ × ℕ)) (sources : Sources) → IsSound t → length t.connections < t.most
      → connections ≡ insert_entry nat_cmp t.connections t.next e → peers ≡ insert_entry nat_cmp t.peers e.peer t.next
      → HasNow t.sources e.source (count_of t.sources e.source + weight e.opener) sources
      → IsSound (record { most = t.most; next = t.next + 1; connections = connections; peers = peers; sources = sources })
  sound_kept t e connections peers sources sound room inserted named has =
      subst (λ (es : List (ℕ × TableEntry C)). IsSound (record { most = t.most; next = t.next + 1; connections = es; peers = peers; sources = sources })) (sym inserted)
      (subst (λ (ps : List (ℕ × ℕ)). IsSound (record { most = t.most; next = t.next + 1; connections = insert_entry nat_cmp t.connections t.next e; peers = ps; sources = sources })) (sym named)
      (sound_added t e sources sound room has))

  pub sound_taken : (t : Table C) (number : ℕ) (e : TableEntry C) (connections : List (ℕ × TableEntry C)) (peers : List (ℕ × ℕ)) (sources : Sources) → IsSound t
      → at number t.connections ≡ Some e → connections ≡ remove_entry (is_at (nat_cmp number)) t.connections → length connections ≤ length t.connections
      → at number connections ≡ None → ((q : ℕ) → is_eq (nat_cmp number q) ≡ false → at q connections ≡ at q t.connections)
      → (at e.peer peers ≡ Some number → ⊥)
      → ((p m : ℕ) → at p peers ≡ Some m → at p t.peers ≡ Some m)
      → HasNow t.sources e.source (count_of t.sources e.source - weight e.opener) sources
      → IsSound (record { most = t.most; next = t.next; connections = connections; peers = peers; sources = sources })
  sound_taken t number e connections peers sources sound is removed fewer gone others free only has =
      subst (λ (es : List (ℕ × TableEntry C)). IsSound (record { most = t.most; next = t.next; connections = es; peers = peers; sources = sources })) (sym removed)
      (sound_removed t number e peers sources sound is
      (subst (λ (es : List (ℕ × TableEntry C)). length es ≤ length t.connections) removed fewer)
      (subst (λ (es : List (ℕ × TableEntry C)). at number es ≡ None) removed gone)
      (λ q apart. ap (λ (es : List (ℕ × TableEntry C)). at q es) (sym removed) ∙ others q (other_key number q apart))
      free only has)

  pub has_room : (t : Table C) → is_full t ≡ false → length t.connections < t.most
  has_room t free = go (nat_le t.most (length t.connections)) refl free
    where
      go : (b : Bool) → nat_le t.most (length t.connections) ≡ b → (b || (t.next == last_number)) ≡ false → length t.connections < t.most
      go true is never = absurd (no_true (sym never))
      go false is rest = leb-false t.most (length t.connections) is

  pub has_number : (t : Table C) → is_full t ≡ false → t.next < 2 ^ 64 → t.next + 1 < 2 ^ 64
  has_number t free fits = go (nat_le t.most (length t.connections)) free
    where
      go : (b : Bool) → (b || (t.next == last_number)) ≡ false → t.next + 1 < 2 ^ 64
      go true never = absurd (no_true (sym never))
      go false rest = let differs = eqb-false t.next last_number rest in omega (arith, fits, differs)

  pub refused_by : (t : Table C) (hop : Hop) (who : Opener) (fault : TableFault) → is_full t ≡ false → IsSourceFault t.sources who (source_number hop) fault → IsRefusedBy t hop who fault
  refused_by t hop who faults.Full free never = absurd never
  refused_by t hop who faults.SourceFull free is = (free, is)
  refused_by t hop who faults.NoMemory free is = (free, is)

  pub free_at : (t old : Table C) (hop : Hop) (who : Opener) (source : ℕ) → t ≡ old → source ≡ source_number hop → is_full t ≡ false → may_open t.sources who source ≡ true → IsFree old hop who
  free_at t old hop who source same s free may =
      subst (λ (o : Table C). IsFree o hop who) same (free, subst (λ (n : ℕ). may_open t.sources who n ≡ true) s may)

  pub refused_at : (t old : Table C) (hop : Hop) (who : Opener) (source : ℕ) (fault : TableFault) → t ≡ old → source ≡ source_number hop → is_full t ≡ false
      → IsSourceFault t.sources who source fault → IsRefusedBy old hop who fault
  refused_at t old hop who source fault same s free is =
      subst (λ (o : Table C). IsRefusedBy o hop who fault) same
      (refused_by t hop who fault free (subst (λ (n : ℕ). IsSourceFault t.sources who n fault) s is))

-- a peer's number is taken away where it is this one
pub gone_from : (old new : List (ℕ × ℕ)) (peer number : ℕ) → at peer old ≡ Some number → at peer new ≡ None → at peer new ≡ Some number → ⊥
gone_from old new peer number was gone never = none_some number (sym gone ∙ never)

pub only_old : (old new : List (ℕ × ℕ)) (peer : ℕ) → at peer new ≡ None → ((q : ℕ) → q ≢ peer → at q new ≡ at q old) → (p m : ℕ) → at p new ≡ Some m → at p old ≡ Some m
only_old old new peer gone others p m there = go (cases_eq p peer)
  where
    go : (p ≡ peer) ⊎ (p ≡ peer → ⊥) → at p old ≡ Some m
    go (inl same) = absurd (none_some m (sym gone ∙ ap (λ (q : ℕ). at q new) (sym same) ∙ there))
    go (inr apart) = sym (others p apart) ∙ there

pub others_stay : (old new : List (ℕ × ℕ)) (peer number : ℕ) → at peer old ≡ Some number → ((q : ℕ) → q ≢ peer → at q new ≡ at q old)
    → (p m : ℕ) → m ≢ number → at p old ≡ Some m → at p new ≡ Some m
others_stay old new peer number was others p m apart there = go (cases_eq p peer)
  where
    go : (p ≡ peer) ⊎ (p ≡ peer → ⊥) → at p new ≡ Some m
    go (inl same) = absurd (apart (some_is m number (sym there ∙ ap (λ (q : ℕ). at q old) same ∙ was)))
    go (inr differs) = others p differs ∙ there
