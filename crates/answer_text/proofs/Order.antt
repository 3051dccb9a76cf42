-- The members of each line stand in the byte order of their names.
use Rattle.std.proofs.Common.{◌≡◌, ℕ, Bool, true, false, List, [], ◌∷◌, Option, Some, None, codes, refl}
use Rattle.std.specs.Ordering.{is_lt}
use Rattle.std.specs.declared.cmp.Ordering.{Ordering}
use Rattle.std.specs.declared.cmp.Ordering.TheVariants.{Less, Equal, Greater}
use Rattle.serde_json.specs.Data.{Data}
use Rattle.key_names.specs.Ranks.{is_before}
use Rattle.key_names.proofs.Places.{before_downward}
use Rattle.bucket_terms.specs.declared.record.Record.{Record}
use Rattle.bucket_terms.specs.declared.list_query.ListQuery.{ListQuery}
use Rattle.bucket_terms.specs.declared.v1_query.V1Query.{V1Query}
use Rattle.bucket_terms.specs.declared.reply.Reply.{Reply}
use Rattle.bucket_terms.specs.declared.reply.Reply.TheVariants.{Put, Exists, Deleted, Found, Missing, Listed, ListedV1, BadToken, NoSlot}
use Rattle.answer_text.specs.Lines.{Member, only_if, if_some, is_given}
use Rattle.answer_text.specs.MemberOrder.{RiseAbove, StandInOrder}
use Rattle.answer_text.specs.Shown.{PageShown, page_shown, V1Shown, v1_shown, short_members, listed_members, v1_members, reply_members, content_members, journal_members}

less_from_before : (o : Ordering) → is_lt o ≡ true → o ≡ Less
less_from_before Less h = refl
less_from_before Equal h = cc
less_from_before Greater h = cc

weaker : (low high : List ℕ) (ms : List (Option Member)) → is_before low high ≡ true → RiseAbove high ms → RiseAbove low ms
weaker low high [] below rise = tt
weaker low high (None ∷ ms) below rise = weaker low high ms below rise
weaker low high (Some m ∷ ms) below rise = ((before_downward m.name).below low high (less_from_before _ below) rise.0, rise.1)

if_there : (there : Bool) (low name : List ℕ) (value : Data) (ms : List (Option Member)) → is_before low name ≡ true → RiseAbove name ms → RiseAbove low (only_if there name value ∷ ms)
if_there true low name value ms below rise = (below, rise)
if_there false low name value ms below rise = weaker low name ms below rise

some_there : (text : Option (List ℕ)) (low name : List ℕ) (ms : List (Option Member)) → is_before low name ≡ true → RiseAbove name ms → RiseAbove low (if_some name text ∷ ms)
some_there (Some text) low name ms below rise = (below, rise)
some_there None low name ms below rise = weaker low name ms below rise

short_rise : (at : Option ℕ) (client line : ℕ) (replaced : Option Bool) (status : ℕ) → StandInOrder (short_members at client line replaced status)
short_rise at client line (Some was) status = (refl, (refl, (refl, (refl, (refl, tt)))))
short_rise at client line None status = (refl, (refl, (refl, (refl, tt))))

listed_rise : (at : Option ℕ) (client line : ℕ) (query : ListQuery) (page : PageShown) → StandInOrder (listed_members at client line query page)
listed_rise at client line query page = (
  refl,
  (
    refl,
    (
      refl,
      (
        refl,
        if_there (is_given query.token) (codes "Contents") (codes "ContinuationToken") _ _ refl
            (if_there (is_given query.delimiter) (codes "ContinuationToken") (codes "Delimiter") _ _ refl
            (if_there query.url (codes "Delimiter") (codes "EncodingType") _ _ refl (
              refl,
              (
                refl,
                (
                  refl,
                  (
                    refl,
                    if_there page.truncated (codes "MaxKeys") (codes "NextContinuationToken") _ _ refl (
                      refl,
                      if_there (is_given query.start_after) (codes "Prefix") (codes "StartAfter") _ _ refl (refl, tt),
                    ),
                  ),
                ),
              ),
            ))),
      ),
    ),
  ),
)

v1_rise : (at : Option ℕ) (client line : ℕ) (query : V1Query) (page : V1Shown) → StandInOrder (v1_members at client line query page)
v1_rise at client line query page = (
  refl,
  (
    refl,
    (
      refl,
      (
        refl,
        if_there (is_given query.delimiter) (codes "Contents") (codes "Delimiter") _ _ refl
            (if_there query.url (codes "Delimiter") (codes "EncodingType") _ _ refl (
              refl,
              (
                refl,
                (
                  refl,
                  (
                    refl,
                    some_there page.next (codes "MaxKeys") (codes "NextMarker") _ refl (refl, (refl, tt)),
                  ),
                ),
              ),
            )),
      ),
    ),
  ),
)

pub reply_rise : (dir : List (List ℕ)) (records : List Record) (at : Option ℕ) (client line : ℕ) (reply : Reply) → StandInOrder (reply_members dir records at client line reply)
reply_rise dir records at client line (Put was) = short_rise at client line (Some was) 200
reply_rise dir records at client line Exists = short_rise at client line None 412
reply_rise dir records at client line Deleted = short_rise at client line None 204
reply_rise dir records at client line (Found val) = (refl, (refl, (refl, (refl, (refl, (refl, (refl, tt)))))))
reply_rise dir records at client line Missing = short_rise at client line None 404
reply_rise dir records at client line (Listed query page) = listed_rise at client line query (page_shown dir records query page)
reply_rise dir records at client line (ListedV1 query page) = v1_rise at client line query (v1_shown dir records query page)
reply_rise dir records at client line BadToken = short_rise at client line None 400
reply_rise dir records at client line NoSlot = short_rise at client line None 503

pub content_rise : (key : List ℕ) (r : Record) → StandInOrder (content_members key r)
content_rise key r = (refl, (refl, (refl, (refl, tt))))

pub journal_rise : (place client : ℕ) (key : List ℕ) (line : ℕ) (verb : List ℕ) → StandInOrder (journal_members place client key line verb)
journal_rise place client key line verb = (refl, (refl, (refl, (refl, (refl, tt)))))
